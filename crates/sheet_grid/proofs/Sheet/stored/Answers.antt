use Rattle.std.proofs.Common.{◌≡◌, ◌∙◌, ℕ, ap, subst, None}
use Rattle.std.specs.Prelude.{IfSome, IfNone, unwrap_or}
use Rattle.std.specs.BTreeMap.{BTreeMap}
use Rattle.sheet_ops.specs.declared.content.Content.{Content}
use Rattle.sheet_ops.specs.declared.content.Content.TheVariants as content
use Rattle.sheet_grid.specs.Cells.{formula_of}
use Rattle.sheet_grid.specs.Kept.{held, cell_kept}
use Rattle.sheet_grid.proofs.TidySheets.{Maps}
use Rattle.sheet_grid.proofs.PositionReads.{stored_read, map_read}
use Rattle.sheet_grid.proofs.Sheet.stored.Goals as goal

pub returns-clause-formula : goal.returns-clause-formula
returns-clause-formula c =
    let read = ap (λ (m : BTreeMap ℕ Content). unwrap_or (held m c.args.col) content.Empty) c.in-Some.ensures.lookup.1
    ∙ (map_read c.deref.result.now c.in-Some.cells.now c.args.rec c.args.col c.in-Some.ensures.lookup.3.0 ∙ (ap (λ (ms : Maps). cell_kept ms c.args.rec c.args.col) c.deref.ensures.value ∙ stored_read c.self.inside.rows c.self.inside.cols c.self.inside.cells.items c.self.invariant c.args.self.now c.self.view_is c.args.rec c.args.col)) in
    subst (λ (w : Content). IfSome c.formula_in.result (λ f. w ≡ content.Formula f.now)) read c.formula_in.ensures.formula

pub returns-clause-none : goal.returns-clause-none
returns-clause-none c =
    let read = ap (λ (m : BTreeMap ℕ Content). unwrap_or (held m c.args.col) content.Empty) c.in-Some.ensures.lookup.1
    ∙ (map_read c.deref.result.now c.in-Some.cells.now c.args.rec c.args.col c.in-Some.ensures.lookup.3.0 ∙ (ap (λ (ms : Maps). cell_kept ms c.args.rec c.args.col) c.deref.ensures.value ∙ stored_read c.self.inside.rows c.self.inside.cols c.self.inside.cells.items c.self.invariant c.args.self.now c.self.view_is c.args.rec c.args.col)) in
    subst (λ (w : Content). IfNone c.formula_in.result (formula_of w ≡ None)) read c.formula_in.ensures.none
