use Rattle.std.proofs.Common.{◌≡◌, take}
use Rattle.marked_lines.specs.Marks.{visible_places}
use Rattle.marked_lines.proofs.places.places_of.Given as goal

abbrev pub invariant-loop-p : goal.invariant-loop-p
invariant-loop-p l = l.places.items ≡ visible_places (take l.p l.marks)
