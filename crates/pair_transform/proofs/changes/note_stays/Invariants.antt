use Rattle.std.proofs.Common.{◌≡◌, ◌+◌, length}
use Rattle.pair_transform.specs.Changes.{MakeSame}
use Rattle.pair_transform.proofs.changes.note_stays.Given as goal

abbrev pub invariant-loop : goal.invariant-loop
invariant-loop g l = record {
  same : MakeSame l.end l.changes.items l.fn.changes.items;
  many : length l.changes.items ≡ length l.fn.changes.items + l.counter;
}
