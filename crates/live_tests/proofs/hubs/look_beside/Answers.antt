use denote.Param.Send.{sendable}
use Rattle.std.proofs.Crossing.{crosses}
use Rattle.hub.proofs.Sends.{pass_sent, book_shared}
use Rattle.live_tests.proofs.hubs.look_beside.Goals as goal

pub join-first-requires-send-F : goal.join-first-requires-send-F
join-first-requires-send-F g c κs = search (pass_sent, book_shared, crosses, sendable) depth 60 fits 20000

pub join-first-requires-send-A : goal.join-first-requires-send-A
join-first-requires-send-A g c κs = search (pass_sent, crosses, sendable) depth 60 fits 20000
