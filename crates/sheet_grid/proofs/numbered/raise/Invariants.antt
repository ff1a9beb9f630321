use Rattle.std.proofs.Common.{◌≡◌, ◌++◌, map, take, drop}
use Rattle.marked_lines.specs.Moves.{after_insertion}
use Rattle.sheet_grid.proofs.numbered.raise.Given as goal

abbrev pub invariant-loop-place : goal.invariant-loop-place
invariant-loop-place l = l.places ≡ map (after_insertion l.p) (take l.place-index l.initial.places) ++ drop l.place-index l.initial.places
