use Rattle.std.proofs.Common.{◌≡◌, take}
use Rattle.sheet_ops.specs.Effects.{uncovered}
use Rattle.pair_transform.proofs.other.uncovered.Given as goal

abbrev pub invariant-loop-put : goal.invariant-loop-put
invariant-loop-put l = l.left ≡ uncovered l.own (take l.put-index l.put-items)
