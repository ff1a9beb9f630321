-- What a desk keeps may go from thread to thread, and threads may share the desk, shown part by part. Both are generic, and a search
-- doesn't look into them: so their fields are shown one by one.
use denote.RattleType.{RattleType}
use denote.Param.Send.{Frees, IsSend, IsSync, sendable, view_send}
use denote.Param.SendFields.{as_row_send, declared_send, declared_sync}
use Rattle.std.proofs.Crossing as owners
use Rattle.std.proofs.alloc.Global.TheSendSync as global
use Rattle.std.specs.contracts.impls.GlobalAllocator.TheImpl.{ghosts}
use Rattle.crossbeam_utils.proofs.sync.event_count.EventCount.TheSendSync as of_count
use Rattle.crossbeam_utils.proofs.sync.parker.RuledUnparker.TheSendSync as of_unparker
use Rattle.hub.proofs.Sends.{pass_sent, sheet_field_sent}
use Rattle.value_snap.proofs.publisher.Publisher.TheSendSync as of_publisher
use Rattle.recalc_loop.specs.declared.workplace.Workplace.{Ghosts}
use Rattle.recalc_loop.specs.contracts.evaluation.Evaluation as evaluation
use Rattle.recalc_loop.specs.contracts.state.Slot as slot
use Rattle.recalc_loop.specs.contracts.state.DeskState as state
use Rattle.recalc_loop.specs.contracts.state.DeskState.TheInside as inside
use Rattle.recalc_loop.specs.contracts.desk.Desk as desk

slot_sent : IsSend (slot.the_field).row
slot_sent = search (pass_sent, owners.crosses, sendable) depth 60 fits 20000

evaluation_sent : IsSend (evaluation.the_field).row
evaluation_sent = search (sheet_field_sent, owners.crosses, sendable) depth 60 fits 20000

heap_frees : Frees ghosts ghosts.dealloc_token
heap_frees = record { frees = owners.frees.frees }

-- its allocator, pass, evaluation and publishers, and then the fields that own nothing
pub state_sent : (W : RattleType) (g : Ghosts W.Denot) → IsSend (state.the_row W g)
state_sent W g =
    view_send _ _ _ _ _ (declared_send (inside.the_type W g) (
      search (global.the_send, sendable) depth 20,
      (
        as_row_send slot.the_field slot_sent,
        (
          as_row_send evaluation.the_field evaluation_sent,
          (
            search (of_publisher.the_send, owners.crosses, sendable) depth 60 fits 20000,
            (search sendable depth 20, (search sendable depth 20, (search sendable depth 20, (search sendable depth 20, tt)))),
          ),
        ),
      ),
    ))

-- its lock, and what wakes those who wait
pub desk_shared : (W : RattleType) (g : Ghosts W.Denot) → IsSync (desk.the_row W g)
desk_shared W g =
    declared_sync (desk.the_type W g) (
      search (state_sent W g, owners.crosses, sendable) depth 60 fits 20000,
      (
        search (of_unparker.the_field_sync, global.the_send, global.the_sync, heap_frees, owners.crosses, sendable) depth 60 fits 20000,
        (search (of_count.the_field_sync, owners.crosses, sendable) depth 60 fits 20000, tt),
      ),
    )
