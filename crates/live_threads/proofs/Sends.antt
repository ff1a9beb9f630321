-- What the threads of a run are given and leave may go from thread to thread, shown part by part.
use denote.RattleType.{RattleType}
use denote.Param.Send.{Frees, IsSend, IsSync, AllSend, sendable}
use denote.Param.SendFields.{FieldsHave, as_row_send, declared_send}
use denote.Struct.Field.{row_field}
use denote.Struct.Tuple.{TupleAt, type_at, parts}
use Rattle.std.proofs.Common.{List, [], ◌∷◌, ℕ}
use Rattle.std.proofs.Crossing as owners
use Rattle.std.proofs.alloc.Global.TheSendSync as global
use Rattle.std.specs.contracts.impls.GlobalAllocator.TheImpl.{ghosts}
use Rattle.ss_base.proofs.text.Txt.TheSendSync as text
use Rattle.ss_base.proofs.types.Site.TheSendSync as site
use Rattle.ss_base.proofs.types.Size.TheSendSync as size
use Rattle.ss_base.proofs.types.Span.TheSendSync as span
use Rattle.ss_base.proofs.types.Spot.TheSendSync as spot
use Rattle.sheet_ops.specs.contracts.edit.Edit as edit
use Rattle.sheet_ops.specs.contracts.operation.Intent as intent
use Rattle.sheet_ops.specs.contracts.operation.Up as up
use Rattle.jup_client.specs.contracts.client.Client as client
use Rattle.hub.proofs.Sends.{put_sent, intent_field_sent, sheet_field_sent, pass_sent, pass_field_sent}
use Rattle.value_snap.proofs.reader.Reader.TheSendSync as of_reader
use Rattle.value_snap.specs.contracts.reader.Reader as reader
use Rattle.live_session.specs.contracts.session.Session as session
use Rattle.live_session.specs.contracts.session.Ended as ended
use Rattle.live_script.specs.contracts.script.Action as action
use Rattle.live_script.specs.contracts.script.SiteScript as script
use Rattle.live_site.specs.contracts.run.SiteEnd as end

-- ---- a session, and what is left of it
intent_sent : IsSend intent.the_row
intent_sent = search (put_sent, owners.crosses, sendable) depth 60 fits 20000

up_sent : IsSend up.the_row
up_sent = search (intent_field_sent, owners.crosses, sendable) depth 60 fits 20000

client_field_sent : IsSend (client.the_field).row
client_field_sent = search (sheet_field_sent, intent_sent, site.the_field_send, size.the_field_send, global.the_field_send, owners.crosses, sendable) depth 60 fits 20000

reader_field_sent : IsSend (reader.the_field).row
reader_field_sent = search (of_reader.the_send, owners.crosses, sendable) depth 60 fits 20000

pub session_sent : IsSend session.the_row
session_sent = search (client_field_sent, pass_sent, up_sent, reader_field_sent, site.the_field_send, owners.crosses, sendable) depth 60 fits 20000

pub session_field_sent : IsSend (session.the_field).row
session_field_sent = search (client_field_sent, pass_sent, up_sent, reader_field_sent, site.the_field_send, owners.crosses, sendable) depth 60 fits 20000

ended_field_sent : IsSend (ended.the_field).row
ended_field_sent = search (client_field_sent, pass_field_sent, reader_field_sent, owners.crosses, sendable) depth 60 fits 20000

pub end_sent : IsSend end.the_row
end_sent = search (ended_field_sent, text.the_send, owners.crosses, sendable) depth 60 fits 20000

-- ---- the lines of a site
edit_field_shared : IsSync (edit.the_field).row
edit_field_shared = search (text.the_sync, span.the_field_sync, spot.the_field_sync, owners.crosses, sendable) depth 60 fits 20000

action_field_shared : IsSync (action.the_field).row
action_field_shared = search (edit_field_shared, span.the_field_sync, owners.crosses, sendable) depth 60 fits 20000

pub script_shared : IsSync script.the_row
script_shared = search (action_field_shared, text.the_sync, owners.crosses, sendable) depth 60 fits 20000

-- ---- what the desk's place to park frees
pub heap_frees : Frees ghosts ghosts.dealloc_token
heap_frees = record { frees = owners.frees.frees }

-- ---- what a closure captures, by its name
parts_sent : (Ts : List RattleType) → AllSend Ts → FieldsHave IsSend (parts Ts)
parts_sent [] each = tt
parts_sent (T ∷ Ts) each = (as_row_send (row_field T) each.0, parts_sent Ts each.1)

pub captures_sent : (name : List ℕ) (Ts : List RattleType) → AllSend Ts → IsSend (TupleAt name Ts)
captures_sent name Ts each = declared_send (type_at name Ts) (parts_sent Ts each)
