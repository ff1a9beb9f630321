use Rattle.std.proofs.Common.{◌≡◌, ◌≤◌, ◌+◌, ℕ, Some, length, drop}
use Rattle.std.specs.Prelude.{slice_get, vec_len, vec_capacity}
use Rattle.std.specs.Vec.Iter.{into_iter_items, into_iter_len}
use Rattle.live_site.specs.declared.run.SiteEnd.{SiteEnd}
use Rattle.live_threads.specs.declared.threads.Begun.{Begun}
use Rattle.live_threads.specs.Threads.{LeftBy}
use Rattle.live_threads.proofs.threads.end_each.Given as goal

abbrev pub invariant-loop-site : goal.invariant-loop-site
invariant-loop-site g l = record {
  room : length l.fn.begun.items ≤ vec_capacity l.ends;
  left : vec_len l.ends + into_iter_len l.site-iterator ≡ length l.fn.begun.items;
  rest : into_iter_items l.site-iterator ≡ drop (vec_len l.ends) l.fn.begun.items;
  each : (k : ℕ) (e : SiteEnd) → slice_get l.ends.items k ≡ Some e → (b : Begun) × (slice_get l.fn.begun.items k ≡ Some b) × LeftBy b.work.session.value b.work.site.0 b.work.script.value e;
}
