use Rattle.std.proofs.Common.{◌≤◌, ap, subst}
use Rattle.ss_base.specs.declared.types.Size.{Size}
use Rattle.sheet_grid.specs.Values.{placed_in}
use Rattle.generated_run.proofs.SameSheets.{all_places}
use Rattle.generated_run.proofs.comparison.same_col_marks.Goals as goal

pub returns : goal.returns
returns c =
    all_places (placed_in c.args.a.now).cols (placed_in c.args.b.now).cols c.loop-col.col (ap (λ (s : Size). s.cols) c.requires)
    (subst (λ (s : Size). s.cols ≤ c.loop-col.col) c.size-col-end.ensures.size c.loop-col-test.false) c.loop-col.invariant
