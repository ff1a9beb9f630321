use Rattle.std.proofs.Common.{◌≡◌, ℕ, List, All, map, length, ap, sym, ◌∙◌, subst}
use Rattle.sheet_ops.specs.declared.operation.Entry.{Entry}
use Rattle.sheet_ops.specs.History.{IsValidHistory}
use Rattle.sheet_ops.specs.Represents.{ClientState, ServerRepresents}
use Rattle.sheet_text.specs.Operations.{IntentWithin}
use Rattle.turn_book.specs.Passes.{PassOf, AreOf, AreAll}
use Rattle.hub.specs.Hubs.{HubOf}
use Rattle.live_record.specs.declared.note.Note.{Note}
use Rattle.live_record.specs.Records.{AllHaveAll, live_text}
use Rattle.live_site.specs.declared.run.SiteEnd.{SiteEnd}
use Rattle.live_close.specs.declared.agreeing.Parts.{Parts}
use Rattle.live_close.specs.Closing.{IsClosedBy, MayAllTakeRest, HaveTakenRest}
use Rattle.live_close.specs.Recorded.{IsRecordOf}
use Rattle.live_close.proofs.Records.{passes_are, are_of, are_all, may_take, entries_short, logs_are, clients_are, all_have_all, record_of}
use Rattle.live_close.proofs.closing.record_of.Goals as goal

pub close_book-hub-requires : goal.close_book-hub-requires
close_book-hub-requires c =
    let (desk, ends, is, done) = c.requires.done in
    let s = c.args.script.now in
    let passes = passes_are s c.args.book desk ends c.args.idle done c.args.parts c.in_ok-passes.passes is c.in_ok-passes.ensures in
    record {
      of = subst (AreOf c.args.book) (sym passes) (are_of s c.args.book desk ends c.args.idle done);
      all = subst (AreAll c.args.book) (sym passes) (are_all s c.args.book desk ends c.args.idle done);
    }

pub take_rest-requires : goal.take_rest-requires
take_rest-requires c =
    let (desk, ends, is, done) = c.requires.done in
    let s = c.args.script.now in
    let hub = c.close_book-hub.result in
    let passes = passes_are s c.args.book desk ends c.args.idle done c.args.parts c.in_ok-passes.passes is c.in_ok-passes.ensures in
    let ended = subst (λ (ps : List (PassOf Entry)). IsClosedBy c.args.book ps hub) passes c.close_book-hub.ensures in
    let valid = subst (λ (h : HubOf). IsValidHistory h.size h.sites h.entries) c.state-state.ensures c.history-history.ensures.valid in
    let clients : c.args.parts.clients ≡ map (λ (e : SiteEnd). e.ended.client) ends = ap (λ (x : Parts). x.clients) is in
    subst (λ (h : HubOf). MayAllTakeRest h c.args.parts.clients) (sym c.state-state.ensures)
    (subst (MayAllTakeRest hub.state) (sym clients) (may_take s c.args.book desk ends c.args.idle done hub ended valid c.requires.script.few))

pub live_text-requires : goal.live_text-requires
live_text-requires c =
    let (desk, ends, is, done) = c.requires.done in
    let s = c.args.script.now in
    let hub = c.close_book-hub.result in
    let passes = passes_are s c.args.book desk ends c.args.idle done c.args.parts c.in_ok-passes.passes is c.in_ok-passes.ensures in
    let ended = subst (λ (ps : List (PassOf Entry)). IsClosedBy c.args.book ps hub) passes c.close_book-hub.ensures in
    let valid = subst (λ (h : HubOf). IsValidHistory h.size h.sites h.entries) c.state-state.ensures c.history-history.ensures.valid in
    let clients : c.args.parts.clients ≡ map (λ (e : SiteEnd). e.ended.client) ends = ap (λ (x : Parts). x.clients) is in
    let taken = subst (λ (h : HubOf). HaveTakenRest h (map (λ (e : SiteEnd). e.ended.client) ends) c.in_ok-clients.clients) c.state-state.ensures
    (subst (λ (old : List ClientState). HaveTakenRest c.state-state.result.now old c.in_ok-clients.clients) clients c.in_ok-clients.ensures) in
    let history : c.as_slice-3.result.now ≡ hub.state.entries = c.as_slice-3.ensures ∙ (c.history-history.ensures.entries ∙ ap (λ (h : HubOf). h.entries) c.state-state.ensures) in
    record {
      logs = ap (λ (l : List (List ℕ)). length l) (c.as_slice.ensures ∙ ap (λ (x : Parts). x.logs) is) ∙ logs_are s c.args.book desk ends c.args.idle done;
      clients = ap (λ (l : List ClientState). length l) c.as_slice-2.ensures ∙ clients_are s c.args.book desk ends c.args.idle done hub ended valid c.requires.script.few c.in_ok-clients.clients taken;
      entries = subst (λ (es : List Entry). All (λ (e : Entry). IntentWithin 16000 e.intent) es) (sym history) (entries_short s c.args.book desk ends c.args.idle done hub ended valid c.requires.script.few c.requires.script);
    }

pub returns-clause-valid : goal.returns-clause-valid
returns-clause-valid c =
    let (desk, ends, is, done) = c.requires.done in
    let s = c.args.script.now in
    let few = c.requires.script.few in
    let hub = c.close_book-hub.result in
    let passes = passes_are s c.args.book desk ends c.args.idle done c.args.parts c.in_ok-passes.passes is c.in_ok-passes.ensures in
    let ended = subst (λ (ps : List (PassOf Entry)). IsClosedBy c.args.book ps hub) passes c.close_book-hub.ensures in
    let valid = subst (λ (h : HubOf). IsValidHistory h.size h.sites h.entries) c.state-state.ensures c.history-history.ensures.valid in
    let clients : c.args.parts.clients ≡ map (λ (e : SiteEnd). e.ended.client) ends = ap (λ (x : Parts). x.clients) is in
    let taken = subst (λ (h : HubOf). HaveTakenRest h (map (λ (e : SiteEnd). e.ended.client) ends) c.in_ok-clients.clients) c.state-state.ensures
    (subst (λ (old : List ClientState). HaveTakenRest c.state-state.result.now old c.in_ok-clients.clients) clients c.in_ok-clients.ensures) in
    let history : c.as_slice-3.result.now ≡ hub.state.entries = c.as_slice-3.ensures ∙ (c.history-history.ensures.entries ∙ ap (λ (h : HubOf). h.entries) c.state-state.ensures) in
    let logs : c.as_slice.result.now ≡ map (λ (e : SiteEnd). e.log) ends = c.as_slice.ensures ∙ ap (λ (x : Parts). x.logs) is in
    let sized = c.server.ensures.size ∙ ap (λ (h : HubOf). h.size) c.state-state.ensures in
    let represents = subst (λ (h : HubOf). ServerRepresents c.server.result.now h.entries) c.state-state.ensures c.server.ensures.represents in
    let have = subst (λ (es : List Entry). AllHaveAll s.size es c.server.result.now c.as_slice-2.result.now) (sym history)
    (subst (AllHaveAll s.size hub.state.entries c.server.result.now) (sym c.as_slice-2.ensures)
    (all_have_all s c.args.book desk ends c.args.idle done hub ended valid few c.server.result.now sized represents c.in_ok-clients.clients taken)) in (
      map (λ (e : SiteEnd). e.log) ends,
      subst (λ (ns : List (List Note)). IsRecordOf s (record { hub = hub; clients = c.in_ok-clients.clients; notes = ns }) (map (λ (e : SiteEnd). e.log) ends)) (sym (ap (λ (x : Parts). x.notes) is))
          (record_of s c.args.book desk ends c.args.idle done hub ended valid few c.in_ok-clients.clients taken),
      c.in_ok-text.ensures have ∙ (λ i. live_text s (history i) (logs i)),
    )
