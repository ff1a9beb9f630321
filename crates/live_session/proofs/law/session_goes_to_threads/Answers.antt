use denote.Exit.{no}
use denote.Param.Send.{param_send, arg_send}
use Rattle.live_session.specs.contracts.session.Session.{the_row}
use Rattle.live_session.proofs.Sends.{session_sent}
use Rattle.live_session.proofs.law.session_goes_to_threads.Goals as goal

pub goes-requires-send-T : goal.goes-requires-send-T
goes-requires-send-T c κs = param_send 0 _ (arg_send _ no the_row session_sent)
