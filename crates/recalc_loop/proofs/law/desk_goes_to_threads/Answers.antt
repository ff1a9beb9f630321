use denote.Exit.{no}
use denote.Param.{param}
use denote.Param.Send.{param_send, param_sync, arg_send, arg_sync}
use Rattle.recalc_loop.proofs.Sends.{state_sent, desk_shared}
use Rattle.recalc_loop.proofs.law.desk_goes_to_threads.Goals as goal

pub goes-requires-send-T : goal.goes-requires-send-T
goes-requires-send-T g c κs within = param_send 0 _ (arg_send _ no _ (state_sent (param 0 g.row.J) g.J.Workplace))

pub is_shared-requires-sync-T : goal.is_shared-requires-sync-T
is_shared-requires-sync-T g c κs within = param_sync 0 _ (arg_sync _ no _ (desk_shared (param 0 g.row.J) g.J.Workplace))
