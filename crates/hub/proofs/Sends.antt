-- What a hub holds may go from thread to thread, shown part by part. A part has a lemma for itself, as an element of a list, and
-- another where a struct has it as a field.
use denote.Param.Send.{IsSend, IsSync, sendable}
use Rattle.std.proofs.Crossing as owners
use Rattle.std.proofs.MapsCrossing as maps
use Rattle.std.proofs.alloc.Global.TheSendSync as global
use Rattle.ss_base.proofs.text.Txt.TheSendSync as text
use Rattle.ss_base.proofs.types.CalcErr.TheSendSync as fault
use Rattle.ss_base.proofs.types.Site.TheSendSync as site
use Rattle.ss_base.proofs.types.Size.TheSendSync as size
use Rattle.ss_base.proofs.types.Span.TheSendSync as span
use Rattle.ss_base.proofs.types.Spot.TheSendSync as spot
use Rattle.formula_tree.proofs.functions.Fun.TheSendSync as function
use Rattle.formula_tree.proofs.operators.BinOp.TheSendSync as between
use Rattle.formula_tree.proofs.operators.PreOp.TheSendSync as before
use Rattle.formula_tree.proofs.expression.Expr.TheLaws.TheKnot as expression
use Rattle.marked_lines.proofs.perm.Perm.TheSendSync as perm
use Rattle.sheet_ops.specs.contracts.content.Content as content
use Rattle.sheet_ops.specs.contracts.content.Put as put
use Rattle.sheet_ops.specs.contracts.operation.Intent as intent
use Rattle.sheet_ops.specs.contracts.operation.Effect as effect
use Rattle.sheet_ops.specs.contracts.operation.Entry as entry
use Rattle.sheet_grid.specs.contracts.Sheet as sheet
use Rattle.jup_server.specs.contracts.server.Server as server
use Rattle.turn_book.proofs.book.Book.TheSendSync as of_book
use Rattle.turn_book.proofs.pass.Pass.TheSendSync as of_pass
use Rattle.turn_book.specs.contracts.pass.Pass as pass
use Rattle.turn_book.specs.contracts.book.Book as book
use Rattle.hub.specs.contracts.hub.Hub as hub
use Rattle.hub.specs.contracts.hub.HubKept.TheImpl.{ghosts}

-- what an expression holds beside expressions
ruleset leaves = (text.the_send, fault.the_field_send, fault.the_send, span.the_field_send, span.the_send, spot.the_field_send, spot.the_send, function.the_field_send, function.the_send, between.the_field_send, between.the_send, before.the_field_send, before.the_send, global.the_field_send, global.the_send)

-- the same of what several threads may look at
ruleset shared_leaves = (text.the_sync, fault.the_field_sync, fault.the_sync, span.the_field_sync, span.the_sync, spot.the_field_sync, spot.the_sync, function.the_field_sync, function.the_sync, between.the_field_sync, between.the_sync, before.the_field_sync, before.the_sync, global.the_field_sync, global.the_sync)

pub content_sent : IsSend content.the_row
content_sent = search (leaves, owners.crosses, expression.crosses, sendable) depth 60 fits 20000

pub content_field_sent : IsSend (content.the_field).row
content_field_sent = search (leaves, owners.crosses, expression.crosses, sendable) depth 60 fits 20000

pub put_sent : IsSend put.the_row
put_sent = search (content_field_sent, owners.crosses, sendable) depth 60 fits 20000

pub intent_field_sent : IsSend (intent.the_field).row
intent_field_sent = search (put_sent, owners.crosses, sendable) depth 60 fits 20000

pub effect_sent : IsSend effect.the_row
effect_sent = search (put_sent, perm.the_send, owners.crosses, sendable) depth 60 fits 20000

content_field_shared : IsSync (content.the_field).row
content_field_shared = search (shared_leaves, owners.crosses, expression.crosses, sendable) depth 60 fits 20000

put_shared : IsSync put.the_row
put_shared = search (content_field_shared, owners.crosses, sendable) depth 60 fits 20000

-- the chains of a server have effects in common
effect_shared : IsSync effect.the_row
effect_shared = search (put_shared, perm.the_sync, owners.crosses, sendable) depth 60 fits 20000

pub entry_sent : IsSend entry.the_row
entry_sent = search (intent_field_sent, site.the_field_send, owners.crosses, sendable) depth 60 fits 20000

pub sheet_field_sent : IsSend (sheet.the_field).row
sheet_field_sent = search (content_sent, owners.crosses, maps.crosses, sendable) depth 60 fits 20000

pub server_field_sent : IsSend (server.the_field).row
server_field_sent = search (sheet_field_sent, effect_sent, effect_shared, size.the_field_send, global.the_field_send, owners.crosses, sendable) depth 60 fits 20000

pub hub_sent : IsSend hub.the_row
hub_sent = search (server_field_sent, entry_sent, effect_sent, owners.crosses, sendable) depth 60 fits 20000

-- the right to enter a hub's book, by itself and where a struct has it as a field
pub pass_sent : IsSend (pass.the_row hub.the_row entry.the_row ghosts)
pass_sent = search (hub_sent, of_pass.the_send, owners.crosses, sendable) depth 60 fits 20000

pub pass_field_sent : IsSend (pass.the_field hub.the_row entry.the_row ghosts).row
pass_field_sent = search (hub_sent, of_pass.the_send, owners.crosses, sendable) depth 60 fits 20000

pub book_shared : IsSync (book.the_row hub.the_row entry.the_row ghosts)
book_shared = search (hub_sent, of_book.the_sync, owners.crosses, sendable) depth 60 fits 20000
