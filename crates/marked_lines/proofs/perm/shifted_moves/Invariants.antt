use Rattle.std.proofs.Common.{◌≡◌, take}
use Rattle.marked_lines.specs.Moves.{shifted}
use Rattle.marked_lines.proofs.perm.shifted_moves.Given as goal

abbrev pub invariant-loop-m : goal.invariant-loop-m
invariant-loop-m l = l.after.items ≡ shifted l.p (take l.m-index l.moves.items)
