use Rattle.std.proofs.Common.{◌≡◌, take, drop}
use Rattle.pair_transform.specs.Changes.{replaced}
use Rattle.pair_transform.proofs.changes.replace_front.Given as goal

abbrev pub invariant-loop-at : goal.invariant-loop-at
invariant-loop-at g l = record {
  done : l.list.items ≡ replaced (take l.at l.fn.changes.items) l.fn.list.items;
  left : l.changes.items ≡ drop l.at l.fn.changes.items;
}
