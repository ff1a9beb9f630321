use Rattle.std.proofs.Common.{◌≡◌, ◌<◌, ℕ, get_or, false}
use Rattle.marked_lines.proofs.places.moves_no_mark.Given as goal

abbrev pub invariant-loop-from : goal.invariant-loop-from
invariant-loop-from l = (k : ℕ) → k < l.from-index → get_or l.marks (get_or l.from-items k (0, 0)).0 false ≡ false
