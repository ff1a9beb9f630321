use Rattle.std.proofs.Common.{take}
use Rattle.cell_walk.specs.Walks.{IsMarked}
use Rattle.cell_walk.proofs.walking.mark_all.Given as goal

abbrev pub invariant-loop-e : goal.invariant-loop-e
invariant-loop-e l = IsMarked l.initial.colours l.colours (take l.e-index l.stack)
