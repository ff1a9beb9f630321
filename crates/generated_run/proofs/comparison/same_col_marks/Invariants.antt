use Rattle.std.proofs.Common.{◌≡◌, ℕ, ◌<◌}
use Rattle.std.specs.Prelude.{slice_get}
use Rattle.sheet_grid.specs.Values.{placed_in}
use Rattle.generated_run.proofs.comparison.same_col_marks.Given as goal

abbrev pub invariant-loop-col : goal.invariant-loop-col
invariant-loop-col l = (k : ℕ) → k < l.col → slice_get (placed_in l.a).cols k ≡ slice_get (placed_in l.b).cols k
