use denote.Exit.{no}
use denote.Param.Send.{param_send, param_sync, arg_send, arg_sync}
use Rattle.hub.specs.contracts.hub.Hub.{the_row}
use Rattle.hub.proofs.Sends.{hub_sent, pass_sent, book_shared}
use Rattle.hub.proofs.law.hub_goes_to_threads.Goals as goal

pub goes-requires-send-T : goal.goes-requires-send-T
goes-requires-send-T c κs = param_send 0 _ (arg_send _ no the_row hub_sent)

pub goes-requires-2-send-T : goal.goes-requires-2-send-T
goes-requires-2-send-T c κs = param_send 0 _ (arg_send _ no _ pass_sent)

pub is_shared-requires-sync-T : goal.is_shared-requires-sync-T
is_shared-requires-sync-T c κs = param_sync 0 _ (arg_sync _ no _ book_shared)
