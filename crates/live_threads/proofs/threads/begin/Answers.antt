use denote.Exit.{no}
use denote.Param.{param}
use denote.Param.Send.{sendable, param_send, arg_send, shr_send}
use mir.Syntax.{named}
use Rattle.std.specs.Prelude.{codes, [], ◌∷◌}
use Rattle.std.proofs.Crossing.{crosses}
use Rattle.std.proofs.alloc.Global.TheSendSync as global
use Rattle.ss_base.proofs.types.Site.TheSendSync as site
use Rattle.hub.proofs.Sends.{book_shared}
use Rattle.recalc_loop.proofs.Sends.{desk_shared}
use Rattle.live_threads.proofs.Sends.{session_sent, end_sent, script_shared, captures_sent}
use Rattle.live_threads.proofs.threads.begin.Goals as goal

-- the captures of the closure that is started: the runtime, the allocator, the session with the site's number and its lines, the book,
-- the desk and the gate
pub spawn_with-requires-send-F : goal.spawn_with-requires-send-F
spawn_with-requires-send-F g c κs within =
    param_send 2 _ (arg_send _ no _ (captures_sent (codes "live_threads::threads::fn::begin::run+Self") (_ ∷ _ ∷ _ ∷ _ ∷ _ ∷ _ ∷ _ ∷ _ ∷ []) (
      shr_send (named 6) κs.1.1.1.1.1.1.0 _ c.type_bounds.sync-R,
      (
        global.the_send,
        (
          session_sent,
          (
            site.the_send,
            (
              shr_send (named 7) κs.1.1.1.1.1.1.1.0 _ script_shared,
              (
                shr_send (named 8) κs.1.1.1.1.1.1.1.1.0 _ book_shared,
                (
                  shr_send (named 9) κs.1.1.1.1.1.1.1.1.1.0 _ (desk_shared (param 1 g.row.J) g.J.Workplace),
                  (shr_send (named 10) κs.1.1.1.1.1.1.1.1.1.1.0 _ c.type_bounds.sync-G, tt),
                ),
              ),
            ),
          ),
        ),
      ),
    )))

pub spawn_with-requires-send-T : goal.spawn_with-requires-send-T
spawn_with-requires-send-T g c κs within = search (end_sent, crosses, sendable) depth 60 fits 20000
