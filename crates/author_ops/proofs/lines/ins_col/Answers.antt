use Rattle.std.proofs.Common.{◌≡◌, ap, sym, ◌∙◌}
use Rattle.sheet_grid.specs.Values.{placed_in}
use Rattle.sheet_ops.specs.declared.operation.Intent.TheVariants as intent
use Rattle.sheet_ops.specs.Placed.{PlacedSheet}
use Rattle.author_ops.specs.Edits.{done_at, insertion_place}
use Rattle.author_ops.proofs.Denoting.{insertion_inside}
use Rattle.author_ops.proofs.lines.ins_col.Goals as goal

pub returns-in-Some-clause-intent : goal.returns-in-Some-clause-intent
returns-in-Some-clause-intent c X e =
    ap (λ (Q : PlacedSheet). done_at intent.InsCol (insertion_place Q.cols c.args.before)) e ∙ ap (done_at intent.InsCol) (sym c.in-Some.ensures)

pub returns-in-Some-clause-fits : goal.returns-in-Some-clause-fits
returns-in-Some-clause-fits c = insertion_inside (placed_in c.args.sheet.now).cols c.args.before c.in-Some.p c.in-Some.ensures

pub returns-in-None-clause-cause : goal.returns-in-None-clause-cause
returns-in-None-clause-cause c X e =
    ap (λ (Q : PlacedSheet). done_at intent.InsCol (insertion_place Q.cols c.args.before)) e ∙ ap (done_at intent.InsCol) (sym c.in-None.ensures)
