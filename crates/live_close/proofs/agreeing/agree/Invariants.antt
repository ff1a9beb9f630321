use Rattle.std.proofs.Common.{◌≡◌, true}
use Rattle.value_snap.specs.Lists.{is_ended}
use Rattle.live_close.proofs.agreeing.agree.Given as goal

abbrev pub invariant-loop : goal.invariant-loop
invariant-loop g l = record {
  next : (goal.iterator-loop g).can_next l.iterator';
  finite : (goal.iterator-loop g).is_finite l.iterator';
  ended : is_ended l.reader.known ≡ true;
}
