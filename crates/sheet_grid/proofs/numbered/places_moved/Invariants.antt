use Rattle.std.proofs.Common.{◌≡◌, ◌<◌, ℕ, length, get_or, take}
use Rattle.marked_lines.specs.Moves.{image}
use Rattle.sheet_grid.proofs.numbered.places_moved.Given as goal

abbrev pub invariant-loop-from : goal.invariant-loop-from
invariant-loop-from l = record {
  long : length l.after.items ≡ length l.places.items;
  placed : (j : ℕ) → j < length l.places.items → get_or l.after.items j 0 ≡ image (take l.from-index l.from-items) (get_or l.places.items j 0);
}
