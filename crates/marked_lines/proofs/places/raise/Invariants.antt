use Rattle.std.proofs.Common.{◌≡◌, ◌+◌, ◌++◌, map, take, drop}
use Rattle.marked_lines.proofs.places.raise.Given as goal

abbrev pub invariant-loop-place : goal.invariant-loop-place
invariant-loop-place l = l.places ≡ map (λ p. p + 1) (take l.place-index l.initial.places) ++ drop l.place-index l.initial.places
