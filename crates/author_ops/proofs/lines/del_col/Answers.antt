use Rattle.std.proofs.Common.{◌≡◌, ap, sym, ◌∙◌}
use Rattle.std.specs.Prelude.{slice_get}
use Rattle.marked_lines.specs.Marks.{visible_places}
use Rattle.sheet_grid.specs.Values.{placed_in}
use Rattle.sheet_ops.specs.declared.operation.Intent.TheVariants as intent
use Rattle.sheet_ops.specs.Placed.{PlacedSheet}
use Rattle.sheet_ops.proofs.Visible.{visible_below}
use Rattle.author_ops.specs.Edits.{done_at}
use Rattle.author_ops.proofs.lines.del_col.Goals as goal

pub returns-in-Some-clause-intent : goal.returns-in-Some-clause-intent
returns-in-Some-clause-intent c X e =
    ap (λ (Q : PlacedSheet). done_at intent.DelCol (slice_get (visible_places Q.cols) c.args.at)) e ∙ ap (done_at intent.DelCol) (sym c.in-Some.ensures)

pub returns-in-Some-clause-fits : goal.returns-in-Some-clause-fits
returns-in-Some-clause-fits c = visible_below (placed_in c.args.sheet.now).cols c.args.at c.in-Some.p (sym c.in-Some.ensures)

pub returns-in-None-clause-cause : goal.returns-in-None-clause-cause
returns-in-None-clause-cause c X e =
    ap (λ (Q : PlacedSheet). done_at intent.DelCol (slice_get (visible_places Q.cols) c.args.at)) e ∙ ap (done_at intent.DelCol) (sym c.in-None.ensures)
