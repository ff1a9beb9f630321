use denote.Exit.{no}
use denote.Param.{param}
use denote.Param.Send.{IsSend, sendable, param_send, arg_send, shr_send}
use mir.Syntax.{named}
use Rattle.std.specs.Prelude.{codes, [], ◌∷◌}
use Rattle.std.proofs.Crossing.{crosses}
use Rattle.std.proofs.alloc.Global.TheSendSync as global
use Rattle.crossbeam_utils.proofs.sync.parker.RuledParker.TheSendSync as of_parker
use Rattle.hub.proofs.Sends.{book_shared}
use Rattle.recalc_loop.proofs.Sends.{desk_shared}
use Rattle.live_threads.proofs.Sends.{heap_frees, captures_sent}
use Rattle.live_threads.proofs.threads.begin_run.Goals as goal

nap_sent : IsSend (Rattle.crossbeam_utils.specs.contracts.sync.parker.RuledParker.the_row (denote.Struct.Field.unit-field).row Rattle.crossbeam_utils.specs.contracts.rule.Unruled.the_row Rattle.std.specs.contracts.alloc.Global.the_row (Rattle.crossbeam_utils.specs.contracts.rule.UnruledProtocolUnit.TheImpl.ghosts (denote.Struct.Field.bool-field).row) Rattle.std.specs.contracts.impls.GlobalAllocator.TheImpl.ghosts)
nap_sent = search (of_parker.the_send, global.the_send, global.the_sync, heap_frees, crosses, sendable) depth 60 fits 20000

-- the captures of the closure that is started: the desk, the runtime, the place to park, the book and the gate
pub spawn-requires-send-F : goal.spawn-requires-send-F
spawn-requires-send-F g c κs within =
    param_send 1 _ (arg_send _ no _ (captures_sent (codes "live_threads::threads::fn::begin_run::spawn+Self") (_ ∷ _ ∷ _ ∷ _ ∷ _ ∷ []) (
      shr_send (named 5) κs.1.1.1.1.1.0 _ (desk_shared (param 1 g.row.J) g.J.Workplace),
      (
        shr_send (named 6) κs.1.1.1.1.1.1.0 _ c.type_bounds.sync-R,
        (nap_sent, (shr_send (named 7) κs.1.1.1.1.1.1.1.0 _ book_shared, (shr_send (named 8) κs.1.1.1.1.1.1.1.1.0 _ c.type_bounds.sync-G, tt))),
      ),
    )))
