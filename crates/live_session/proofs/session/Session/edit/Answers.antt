use Rattle.std.proofs.Common.{◌≡◌, List, [], ◌∷◌, ◌++◌, Ok, ap, sym, ◌∙◌, subst}
use Rattle.std.specs.Prelude.{unwrap_or}
use Rattle.sheet_ops.specs.declared.operation.Entry.{Entry}
use Rattle.sheet_ops.specs.declared.operation.Intent.{Intent}
use Rattle.sheet_ops.specs.declared.operation.Up.{Up}
use Rattle.jup_client.specs.Clients.{own_entry}
use Rattle.client_edits.specs.Decided.{Decides, with_operation}
use Rattle.live_session.specs.Sessions.{SessionOf, entries_by, no_pass}
use Rattle.live_session.proofs.Working.{has_pass, more_waits, edited_whole}
use Rattle.live_session.proofs.session.Session.edit.Goals as goal

pub invariant_of-self-2 : goal.invariant_of-self-2
invariant_of-self-2 c =
    let s = c.self.inside in
    let e = c.in_ok-up.ensures in
    let items : c.push_back_reserved.new.self.items ≡ s.unpushed.items ++ c.in_ok-up.up ∷ [] = c.push_back_reserved.ensures.items ∙ ap (λ (l : List Up). l ++ c.in_ok-up.up ∷ []) c.reserve.ensures.items in
    edited_whole s.site s.client c.issue.new.client s.pass s.seen s.unpushed.items c.push_back_reserved.new.self.items c.in_ok-up.up c.self.invariant items e.few e.seen e.done e.represents

pub returns-clause-ok : goal.returns-clause-ok
returns-clause-ok c =
    let s = c.self.inside in
    let up = c.in_ok-up.up in
    let e = c.in_ok-up.ensures in
    let items : c.push_back_reserved.new.self.items ≡ s.unpushed.items ++ up ∷ [] = c.push_back_reserved.ensures.items ∙ ap (λ (l : List Up). l ++ up ∷ []) c.reserve.ensures.items in
    let stands = has_pass s.site s.client s.pass s.seen s.unpushed.items c.self.invariant in
    let waits : entries_by s.site c.push_back_reserved.new.self.items ≡ entries_by s.site s.unpushed.items ++ own_entry s.client up.intent ∷ [] =
    ap (entries_by s.site) items ∙ sym (more_waits s.site s.client s.unpushed.items up stands.site_is e.seen) in
    let new : SessionOf = record {
      client = c.issue.new.client;
      pass = unwrap_or s.pass no_pass;
      unpushed = entries_by s.site c.push_back_reserved.new.self.items;
      reader = s.reader;
      read_length = s.read_length;
    } in
    subst (λ (z : SessionOf). (op : Intent) × Decides z.client c.args.edit.now (Ok op) × (new ≡ record z { client = with_operation z.client op; unpushed = z.unpushed ++ own_entry z.client op ∷ [] })) c.self.view_is
    (up.intent, e.decided, λ i. record { client = e.done i; pass = unwrap_or s.pass no_pass; unpushed = waits i; reader = s.reader; read_length = s.read_length })
