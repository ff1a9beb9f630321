use Rattle.std.proofs.Common.{◌≡◌, ◌≤◌, false}
use Rattle.value_snap.specs.Lists.{is_ended, upto_from}
use Rattle.live_tests.proofs.stores.publish_all.Given as goal

abbrev pub invariant-loop-k : goal.invariant-loop-k
invariant-loop-k g l = (is_ended l.publisher.list ≡ false) × (upto_from 0 l.publisher.list ≤ l.k) × (l.publisher.spent ≡ false)
