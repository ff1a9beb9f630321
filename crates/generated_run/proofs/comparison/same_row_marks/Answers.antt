use Rattle.std.proofs.Common.{◌≤◌, ap, subst}
use Rattle.ss_base.specs.declared.types.Size.{Size}
use Rattle.sheet_grid.specs.Values.{placed_in}
use Rattle.generated_run.proofs.SameSheets.{all_places}
use Rattle.generated_run.proofs.comparison.same_row_marks.Goals as goal

pub returns : goal.returns
returns c =
    all_places (placed_in c.args.a.now).rows (placed_in c.args.b.now).rows c.loop-row.row (ap (λ (s : Size). s.rows) c.requires)
    (subst (λ (s : Size). s.rows ≤ c.loop-row.row) c.size-row-end.ensures.size c.loop-row-test.false) c.loop-row.invariant
