use Rattle.std.proofs.Common.{◌≡◌, ◌++◌, length}
use Rattle.std.specs.Prelude.{vec_len}
use Rattle.std.specs.Vec.Iter.{into_iter_items, into_iter_len}
use Rattle.live_close.specs.Closing.{HaveTakenRest}
use Rattle.live_close.proofs.closing.take_rest.Given as goal

abbrev pub invariant-loop-client : goal.invariant-loop-client
invariant-loop-client l = record {
  left : l.yielded ++ into_iter_items l.client-iterator ≡ l.fn.clients;
  count : into_iter_len l.client-iterator ≡ length (into_iter_items l.client-iterator);
  done : vec_len l.done ≡ length l.yielded;
  taken : HaveTakenRest l.hub l.yielded l.done.items;
}
