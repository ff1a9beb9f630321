use Rattle.std.proofs.Common.{◌≡◌, ℕ, ◌<◌}
use Rattle.std.specs.Prelude.{slice_index, slice_index_or}
use Rattle.sheet_ops.specs.declared.content.Content.TheVariants as content
use Rattle.sheet_ops.specs.Placed.{cell_at}
use Rattle.sheet_grid.specs.Values.{placed_in}
use Rattle.generated_run.proofs.comparison.same_among.Given as goal

abbrev pub invariant-loop-i : goal.invariant-loop-i
invariant-loop-i l = (k : ℕ) → k < l.i → cell_at (placed_in l.a) l.row (slice_index l.cols k) ≡ slice_index_or l.contents k content.Empty
