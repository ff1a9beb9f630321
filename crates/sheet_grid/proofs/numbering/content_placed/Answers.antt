use Rattle.std.proofs.Common.{ap, sym, ◌∙◌, subst, length}
use Rattle.sheet_ops.specs.declared.content.Content.{Content}
use Rattle.sheet_ops.specs.declared.content.Content.TheVariants as content
use Rattle.sheet_ops.specs.Fits.{ContentFits}
use Rattle.sheet_grid.specs.Numbering.{content_placed}
use Rattle.sheet_grid.proofs.ToPositions.{formula_placed-is}
use Rattle.sheet_grid.proofs.numbering.content_placed.Goals as goal

pub returns-in_ok-formula_placed-in-Formula : goal.returns-in_ok-formula_placed-in-Formula
returns-in_ok-formula_placed-in-Formula c =
    let rows = c.args.rows.now in
    let cols = c.args.cols.now in
    let fits = subst (λ (w : Content). ContentFits (record { rows = length rows.slots; cols = length cols.slots }) w) c.in-Formula.is c.requires in
    ap content.Formula c.in_ok-formula_placed-in-Formula.ensures.value ∙ (formula_placed-is rows cols c.in-Formula.formula fits ∙ sym (ap (content_placed rows cols) c.in-Formula.is))
