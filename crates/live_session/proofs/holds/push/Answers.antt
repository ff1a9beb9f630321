use Rattle.std.proofs.Common.{◌≡◌, ◌++◌, length, drop, ap, sym, ◌∙◌, rules, subst}
use Rattle.sheet_ops.specs.History.{IsValidHistory}
use Rattle.turn_book.specs.Entries.{entries_of}
use Rattle.turn_book.specs.Passes.{IsSamePass}
use Rattle.hub.specs.Hubs.{HubOf}
use Rattle.hub.specs.BookEntries.{book_entries}
use Rattle.live_session.specs.Pushing.{Pushes, StandsIn}
use Rattle.live_session.specs.Sessions.{entries_by}
use Rattle.live_session.proofs.Holding.{finds, seen_left, stands_found}
use Rattle.live_session.proofs.PushedOwn.{adds_own, own_same, seen_grows, stands_pushed}
use Rattle.live_session.proofs.holds.push.Goals as goal

pub push_waiting-pushed-requires : goal.push_waiting-pushed-requires
push_waiting-pushed-requires g c =
    let h = c.enter-held.result.state in
    let e = c.enter-held.ensures in
    let old = c.state.result.now in
    let f = finds c.args.pass h old c.state.ensures.value e.opening e.seen e.made in
    let valid : IsValidHistory h.size h.sites h.entries = search rules in
    let here = subst (λ (x : HubOf). IsValidHistory x.size x.sites x.entries) (sym c.state.ensures.value) valid in
    let s = c.requires.stands in
    (s.0, stands_found c.args.pass old f s.0 c.args.site.0 (entries_by c.args.site c.args.unpushed.now.items) s.1 s.2 here)

pub leave-requires-clause-adds : goal.leave-requires-clause-adds
leave-requires-clause-adds g c =
    let site = c.args.site in
    let e = c.enter-held.ensures in
    let old = c.state.result.now in
    let new = c.state-2.result.now in
    let waiting = c.args.unpushed.now.items in
    let left = c.push_waiting-pushed.new.unpushed.items in
    let f = finds c.args.pass c.enter-held.result.state old c.state.ensures.value e.opening e.seen e.made in
    let w = subst (λ (x : HubOf). Pushes site old x waiting left) (sym c.state-2.ensures.value) c.push_waiting-pushed.ensures.pushes in
    let found : c.enter-held.result.found ≡ book_entries old.entries = e.found ∙ ap (λ (x : HubOf). book_entries x.entries) (sym c.state.ensures.value) in
    let items = entries_by site w.pushed in
    (items, adds_own c.args.pass site old new waiting left (c.requires.stands.2.number ∙ c.requires.stands.1) f w ∙ (λ i. sym found i ++ entries_of (sym e.pass i).number (length (sym e.pass i).made) items))

pub returns-clause-seen : goal.returns-clause-seen
returns-clause-seen g c =
    let site = c.args.site in
    let e = c.enter-held.ensures in
    let old = c.state.result.now in
    let new = c.state-2.result.now in
    let waiting = c.args.unpushed.now.items in
    let left = c.push_waiting-pushed.new.unpushed.items in
    let f = finds c.args.pass c.enter-held.result.state old c.state.ensures.value e.opening e.seen e.made in
    let w = subst (λ (x : HubOf). Pushes site old x waiting left) (sym c.state-2.ensures.value) c.push_waiting-pushed.ensures.pushes in
    seen_grows c.args.pass site old new waiting left (c.requires.stands.2.number ∙ c.requires.stands.1) f w c.leave.result c.leave.ensures.seen

pub returns-clause-length : goal.returns-clause-length
returns-clause-length g c = c.length-seen.ensures ∙ ap length (sym (seen_left c.leave.result c.state-2.result.now.entries c.leave.ensures.seen))

pub returns-clause-own : goal.returns-clause-own
returns-clause-own g c =
    let site = c.args.site in
    let e = c.enter-held.ensures in
    let old = c.state.result.now in
    let new = c.state-2.result.now in
    let waiting = c.args.unpushed.now.items in
    let left = c.push_waiting-pushed.new.unpushed.items in
    let f = finds c.args.pass c.enter-held.result.state old c.state.ensures.value e.opening e.seen e.made in
    let w = subst (λ (x : HubOf). Pushes site old x waiting left) (sym c.state-2.ensures.value) c.push_waiting-pushed.ensures.pushes in
    let found : c.enter-held.result.found ≡ book_entries old.entries = e.found ∙ ap (λ (x : HubOf). book_entries x.entries) (sym c.state.ensures.value) in
    own_same c.args.pass site old new waiting left (c.requires.stands.2.number ∙ c.requires.stands.1) f w c.leave.result
    (c.leave.ensures.made ∙ (λ i. (e.pass i).made ++ drop (length (found i)) (book_entries new.entries)))

pub returns-clause-stands : goal.returns-clause-stands
returns-clause-stands g c d is s =
    let site = c.args.site in
    let h = c.enter-held.result.state in
    let e = c.enter-held.ensures in
    let old = c.state.result.now in
    let new = c.state-2.result.now in
    let waiting = c.args.unpushed.now.items in
    let left = c.push_waiting-pushed.new.unpushed.items in
    let f = finds c.args.pass h old c.state.ensures.value e.opening e.seen e.made in
    let w = subst (λ (x : HubOf). Pushes site old x waiting left) (sym c.state-2.ensures.value) c.push_waiting-pushed.ensures.pushes in
    let found : c.enter-held.result.found ≡ book_entries old.entries = e.found ∙ ap (λ (x : HubOf). book_entries x.entries) (sym c.state.ensures.value) in
    let valid : IsValidHistory h.size h.sites h.entries = search rules in
    let here = subst (λ (x : HubOf). IsValidHistory x.size x.sites x.entries) (sym c.state.ensures.value) valid in
    let stood = c.push_waiting-pushed.ensures.stands d (stands_found c.args.pass old f d site.0 (entries_by site waiting) is s here) in
    stands_pushed c.args.pass site old new waiting left (s.number ∙ is) f w c.leave.result
    (c.leave.ensures.made ∙ (λ i. (e.pass i).made ++ drop (length (found i)) (book_entries new.entries)))
    d is (subst (λ (x : HubOf). StandsIn x d site.0 (entries_by site left)) (sym c.state-2.ensures.value) stood) (subst (λ p. IsSamePass p c.leave.result) e.pass c.leave.ensures.same) c.leave.ensures.seen
