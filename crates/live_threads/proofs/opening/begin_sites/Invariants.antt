use Rattle.std.proofs.Common.{◌≡◌, ◌≤◌, ◌+◌, ℕ, suc, Some, length, drop, map, All}
use Rattle.std.specs.Prelude.{slice_get, vec_len, vec_capacity}
use Rattle.std.specs.List.{range_with_len}
use Rattle.std.specs.Vec.Iter.{into_iter_items, into_iter_len}
use Rattle.turn_book.specs.Passes.{BookOf, new_pass}
use Rattle.live_session.specs.Sessions.{SessionOf}
use Rattle.live_threads.specs.Threads.{hub_site_count}
use Rattle.live_threads.specs.Threads.{IsFresh, IsNewPublisher, stores_of}
use Rattle.live_threads.proofs.opening.begin_sites.Given as goal

abbrev pub invariant-loop-pass : goal.invariant-loop-pass
invariant-loop-pass g l = record {
  room : hub_site_count l.script ≤ vec_capacity l.publishers;
  left : vec_len l.sessions + into_iter_len l.pass-iterator ≡ length l.fn.passes.items;
  rest : into_iter_items l.pass-iterator ≡ drop (vec_len l.sessions) l.fn.passes.items;
  count : length l.publishers.items ≡ vec_len l.sessions;
  publishers : All (IsNewPublisher l.script.size) l.publishers.items;
  each : (book : BookOf) → l.fn.passes.items ≡ map (new_pass book) (range_with_len 1 (hub_site_count l.script)) → (k : ℕ) (t : SessionOf) → slice_get l.sessions.items k ≡ Some t → IsFresh l.script.size book (suc k) (stores_of l.publishers.items (suc k)) t;
}
