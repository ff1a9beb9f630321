-- What a session holds may go from thread to thread, shown part by part as for a hub.
use denote.Param.Send.{IsSend, sendable}
use Rattle.std.proofs.Crossing as owners
use Rattle.std.proofs.alloc.Global.TheSendSync as global
use Rattle.ss_base.proofs.types.Site.TheSendSync as site
use Rattle.ss_base.proofs.types.Size.TheSendSync as size
use Rattle.sheet_ops.specs.contracts.operation.Intent as intent
use Rattle.sheet_ops.specs.contracts.operation.Up as up
use Rattle.jup_client.specs.contracts.client.Client as client
use Rattle.value_snap.proofs.reader.Reader.TheSendSync as of_reader
use Rattle.value_snap.specs.contracts.reader.Reader as reader
use Rattle.hub.proofs.Sends.{put_sent, intent_field_sent, sheet_field_sent, pass_sent}
use Rattle.live_session.specs.contracts.session.Session as session

intent_sent : IsSend intent.the_row
intent_sent = search (put_sent, owners.crosses, sendable) depth 60 fits 20000

up_sent : IsSend up.the_row
up_sent = search (intent_field_sent, owners.crosses, sendable) depth 60 fits 20000

client_field_sent : IsSend (client.the_field).row
client_field_sent = search (sheet_field_sent, intent_sent, site.the_field_send, size.the_field_send, global.the_field_send, owners.crosses, sendable) depth 60 fits 20000

reader_field_sent : IsSend (reader.the_field).row
reader_field_sent = search (of_reader.the_send, owners.crosses, sendable) depth 60 fits 20000

pub session_sent : IsSend session.the_row
session_sent = search (client_field_sent, pass_sent, up_sent, reader_field_sent, site.the_field_send, global.the_field_send, owners.crosses, sendable) depth 60 fits 20000
