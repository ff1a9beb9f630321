use Rattle.std.proofs.Common.{◌≡◌, ◌++◌, List, length, take, drop, ap, sym, ◌∙◌, refl, rules, subst}
use Rattle.std.specs.Prelude.{IfOk}
use Rattle.sheet_ops.specs.declared.operation.Entry.{Entry}
use Rattle.sheet_ops.specs.History.{IsValidHistory}
use Rattle.jup_client.specs.declared.Down.{Down}
use Rattle.turn_book.specs.Passes.{PassOf, IsSamePass}
use Rattle.hub.specs.Hubs.{HubOf}
use Rattle.hub.specs.BookEntries.{book_entries}
use Rattle.live_session.proofs.Holding.{finds, seen_left, within_found, messages_left, grows_still, made_still, stands_still}
use Rattle.live_session.proofs.holds.fetch.Goals as goal

pub fetch-downs-requires : goal.fetch-downs-requires
fetch-downs-requires g c =
    let e = c.enter-held.ensures in
    within_found c.args.pass c.state.result.now (finds c.args.pass c.enter-held.result.state c.state.result.now c.state.ensures.value e.opening e.seen e.made) c.args.from c.requires.from

pub returns-clause-seen : goal.returns-clause-seen
returns-clause-seen g c =
    let h = c.enter-held.result.state in
    let e = c.enter-held.ensures in
    let stays : c.state-2.result.now ≡ h = c.state-2.ensures.value ∙ c.state.ensures.value in
    grows_still c.args.pass c.leave.result h (finds c.args.pass h h refl e.opening e.seen e.made) (c.leave.ensures.seen ∙ ap (λ (x : HubOf). book_entries x.entries) stays)

pub returns-clause-length : goal.returns-clause-length
returns-clause-length g c = c.length-seen.ensures ∙ ap length (sym (seen_left c.leave.result c.state-2.result.now.entries c.leave.ensures.seen))

pub returns-clause-messages : goal.returns-clause-messages
returns-clause-messages g c size sites opens =
    let now = c.state.result.now in
    let e = c.enter-held.ensures in
    let f = finds c.args.pass c.enter-held.result.state now c.state.ensures.value e.opening e.seen e.made in
    let seen = c.leave.ensures.seen ∙ ap (λ (x : HubOf). book_entries x.entries) c.state-2.ensures.value in
    subst (λ (l : List Down). IfOk c.fetch-downs.result (λ downs. downs ≡ take c.args.most (drop c.args.from l)))
    (messages_left c.args.pass c.leave.result now c.args.site.0 f seen size sites opens) c.fetch-downs.ensures

pub returns-clause-stands : goal.returns-clause-stands
returns-clause-stands g c d waiting s =
    let h = c.enter-held.result.state in
    let e = c.enter-held.ensures in
    let stays : c.state-2.result.now ≡ h = c.state-2.ensures.value ∙ c.state.ensures.value in
    let valid : IsValidHistory h.size h.sites h.entries = search rules in
    let found : c.enter-held.result.found ≡ book_entries c.state-2.result.now.entries = e.found ∙ ap (λ (x : HubOf). book_entries x.entries) (sym stays) in
    let made : c.leave.result.made ≡ c.args.pass.made =
    made_still c.args.pass c.leave.result c.enter-held.result.found c.state-2.result.now.entries found
    (c.leave.ensures.made ∙ ap (λ (p : PassOf Entry). p.made ++ drop (length c.enter-held.result.found) (book_entries c.state-2.result.now.entries)) e.pass) in
    stands_still c.args.pass c.leave.result h d waiting (finds c.args.pass h h refl e.opening e.seen e.made) valid (subst (λ p. IsSamePass p c.leave.result) e.pass c.leave.ensures.same)
    (c.leave.ensures.seen ∙ ap (λ (x : HubOf). book_entries x.entries) stays) made s
