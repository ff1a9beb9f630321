use Rattle.std.proofs.Common.{◌≡◌, ◌++◌, length, drop, ap, sym, ◌∙◌, refl, rules, subst}
use Rattle.sheet_ops.specs.declared.operation.Entry.{Entry}
use Rattle.sheet_ops.specs.History.{IsValidHistory}
use Rattle.turn_book.specs.Passes.{PassOf, IsSamePass}
use Rattle.hub.specs.Hubs.{HubOf}
use Rattle.hub.specs.BookEntries.{book_entries}
use Rattle.live_session.proofs.Holding.{finds, seen_left, grows_still, made_still, stands_still}
use Rattle.live_session.proofs.holds.end.Goals as goal

pub returns-clause-seen : goal.returns-clause-seen
returns-clause-seen g c =
    let h = c.enter-held.result.state in
    let e = c.enter-held.ensures in
    let stays : c.state-2.result.now.entries ≡ h.entries = (λ i. (c.state-2.ensures.value i).entries) ∙ ((λ i. (c.end_site.ensures i).entries) ∙ (λ i. (c.state.ensures.value i).entries)) in
    grows_still c.args.pass c.leave.result h (finds c.args.pass h h refl e.opening e.seen e.made) (c.leave.ensures.seen ∙ ap book_entries stays)

pub returns-clause-length : goal.returns-clause-length
returns-clause-length g c = c.length-seen.ensures ∙ ap length (sym (seen_left c.leave.result c.state-2.result.now.entries c.leave.ensures.seen))

pub returns-clause-stands : goal.returns-clause-stands
returns-clause-stands g c d waiting s =
    let h = c.enter-held.result.state in
    let e = c.enter-held.ensures in
    let stays : c.state-2.result.now.entries ≡ h.entries = (λ i. (c.state-2.ensures.value i).entries) ∙ ((λ i. (c.end_site.ensures i).entries) ∙ (λ i. (c.state.ensures.value i).entries)) in
    let valid : IsValidHistory h.size h.sites h.entries = search rules in
    let found : c.enter-held.result.found ≡ book_entries c.state-2.result.now.entries = e.found ∙ ap book_entries (sym stays) in
    let made : c.leave.result.made ≡ c.args.pass.made =
    made_still c.args.pass c.leave.result c.enter-held.result.found c.state-2.result.now.entries found
    (c.leave.ensures.made ∙ ap (λ (p : PassOf Entry). p.made ++ drop (length c.enter-held.result.found) (book_entries c.state-2.result.now.entries)) e.pass) in
    stands_still c.args.pass c.leave.result h d waiting (finds c.args.pass h h refl e.opening e.seen e.made) valid (subst (λ p. IsSamePass p c.leave.result) e.pass c.leave.ensures.same) (c.leave.ensures.seen ∙ ap book_entries stays) made s
