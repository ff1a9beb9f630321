use Rattle.std.proofs.Common.{◌≡◌, ◌≤◌, ◌+◌, ℕ, suc, Some, length, drop}
use Rattle.std.specs.Prelude.{slice_get, vec_len, vec_capacity}
use Rattle.std.specs.Vec.Iter.{into_iter_items, into_iter_len}
use Rattle.live_session.specs.Sessions.{SessionOf}
use Rattle.live_script.specs.declared.script.SiteScript.{SiteScript}
use Rattle.live_threads.specs.declared.threads.Begun.{Begun}
use Rattle.live_threads.specs.Begun.{IsAtWork}
use Rattle.live_threads.proofs.threads.begin_all.Given as goal

abbrev pub invariant-loop-session : goal.invariant-loop-session
invariant-loop-session g l = record {
  room : length l.fn.sessions ≤ vec_capacity l.begun;
  left : vec_len l.begun + into_iter_len l.session-iterator ≡ length l.fn.sessions;
  rest : into_iter_items l.session-iterator ≡ drop (vec_len l.begun) l.fn.sessions;
  each : (k : ℕ) (b : Begun) → slice_get l.begun.items k ≡ Some b → (session : SessionOf) × (t : SiteScript) × (slice_get l.fn.sessions k ≡ Some session) × (slice_get l.script.sites k ≡ Some t) × IsAtWork (suc k) session t b;
}
