use Rattle.std.proofs.Common.{◌≡◌, ℕ, List, true, false, Option, Some, drop, length, arith, ap, sym, ◌∙◌, subst}
use Rattle.ss_base.specs.Lists.{IsPrefixOf}
use Rattle.sheet_ops.specs.declared.operation.Entry.{Entry}
use Rattle.turn_book.specs.Passes.{PassOf, items_in}
use Rattle.value_snap.specs.Stores.{PublisherOf}
use Rattle.hub.specs.Messages.{effects_of}
use Rattle.recalc_loop.specs.Desks.{DeskOf, desk_of, IsDesk, IsCurrent}
use Rattle.recalc_loop.specs.Evaluations.{AreNext}
use Rattle.recalc_loop.specs.Publishing.{batch_of}
use Rattle.recalc_loop.proofs.Turns.{if_ok, at_ok_on, none_published, begins_itself, kept_whole, one_batch_whole, front, desk_there, current_there, desk_found, are_next}
use Rattle.recalc_loop.proofs.state.DeskState.turn.Goals as goal

pub publish_new-published-requires-clause-desk : goal.publish_new-published-requires-clause-desk
publish_new-published-requires-clause-desk g c =
    let book = g.J.Workplace.book in
    let size = g.J.Workplace.size in
    let sites = g.J.Workplace.sites in
    let stores = g.J.Workplace.stores in
    let s = c.self.inside in
    let here : s.slot.pass ≡ Some c.unwrap-pass.result = sym c.take.ensures.value ∙ c.unwrap-pass.ensures in
    let desk : IsDesk book size sites stores c.unwrap-pass.result s.publishers.items s.spent = desk_there book size sites stores s.slot.pass c.unwrap-pass.result s.publishers.items s.spent here c.self.invariant.0 in
    subst (λ (qs : List PublisherOf). IsDesk book size sites stores c.take_new-pass.result.pass qs true) (sym c.deref_mut.ensures.value)
    (desk_found book size sites stores c.unwrap-pass.result c.take_new-pass.result.pass s.publishers.items s.spent desk c.take_new-pass.ensures.same c.take_new-pass.ensures.seen)

pub publish_new-published-requires-clause-effects :
    goal.publish_new-published-requires-clause-effects
publish_new-published-requires-clause-effects g c =
    let book = g.J.Workplace.book in
    let size = g.J.Workplace.size in
    let sites = g.J.Workplace.sites in
    let stores = g.J.Workplace.stores in
    let s = c.self.inside in
    let p = c.unwrap-pass.result in
    let p' = c.take_new-pass.result.pass in
    let here : s.slot.pass ≡ Some p = sym c.take.ensures.value ∙ c.unwrap-pass.ensures in
    let desk : IsDesk book size sites stores p s.publishers.items s.spent = desk_there book size sites stores s.slot.pass p s.publishers.items s.spent here c.self.invariant.0 in
    let current : IsCurrent size (items_in p.seen) s.evaluation s.publishers.items = current_there book size sites stores s.slot.pass p s.evaluation s.publishers.items here (c.self.invariant.1 c.if-self.false) in
    let unspent : IsDesk book size sites stores p s.publishers.items false = subst (λ t. IsDesk book size sites stores p s.publishers.items t) c.if-self.false desk in
    if_ok (λ es. es ≡ drop c.length.result (effects_of size (items_in p'.seen))) (λ es. AreNext size sites (items_in p'.seen) s.evaluation es)
    (λ es is. are_next book size sites stores p p' s.evaluation s.publishers.items es unspent current c.take_new-pass.ensures.seen (c.take_new-pass.ensures.valid size sites desk.opening)
    (is ∙ ap (λ (n : ℕ). drop n (effects_of size (items_in p'.seen))) c.length.ensures))
    c.take_new-pass.result.effects (c.take_new-pass.ensures.effects size sites desk.opening)

pub returns-clause-nothing_new : goal.returns-clause-nothing_new
returns-clause-nothing_new g c same =
    let book = g.J.Workplace.book in
    let size = g.J.Workplace.size in
    let sites = g.J.Workplace.sites in
    let stores = g.J.Workplace.stores in
    let s = c.self.inside in
    let p = c.unwrap-pass.result in
    let p' = c.take_new-pass.result.pass in
    let here : s.slot.pass ≡ Some p = sym c.take.ensures.value ∙ c.unwrap-pass.ensures in
    let current : IsCurrent size (items_in p.seen) s.evaluation s.publishers.items = current_there book size sites stores s.slot.pass p s.evaluation s.publishers.items here (c.self.invariant.1 c.if-self.false) in
    let unseen : items_in p'.seen ≡ items_in p.seen = same ∙ (sym (ap (λ (d : DeskOf). d.seen) c.self.view_is) ∙ ap (λ (o : Option (PassOf Entry)). (desk_of o s.publishers.items s.spent).seen) here) in
    let full : s.evaluation.length ≡ length (items_in p'.seen) = current.evaluated.count ∙ ap length (sym unseen) in
    let stays : c.publish_new-published.new.publishers ≡ c.deref_mut.result.now = at_ok_on c.publish_new-published.result c.in_ok-published.field-0 c.in_ok-published.was c.publish_new-published.ensures.nothing_new full in
    let long : length c.publish_new-published.new.publishers ≡ s.publishers.len = omega (arith, ap length stays, c.deref_mut.ensures.len) in
    front c.publish_new-published.new.publishers (drop (length c.publish_new-published.new.publishers) s.publishers.items) s.publishers.len long
    ∙ (stays ∙ (c.deref_mut.ensures.value ∙ (sym (ap (λ (o : Option (PassOf Entry)). (desk_of o s.publishers.items s.spent).publishers) here) ∙ ap (λ (d : DeskOf). d.publishers) c.self.view_is)))

pub returns-clause-one_batch : goal.returns-clause-one_batch
returns-clause-one_batch g c more =
    let book = g.J.Workplace.book in
    let size = g.J.Workplace.size in
    let sites = g.J.Workplace.sites in
    let stores = g.J.Workplace.stores in
    let s = c.self.inside in
    let p = c.unwrap-pass.result in
    let p' = c.take_new-pass.result.pass in
    let here : s.slot.pass ≡ Some p = sym c.take.ensures.value ∙ c.unwrap-pass.ensures in
    let seen_was : c.args.self.now.seen ≡ items_in p.seen = sym (ap (λ (d : DeskOf). d.seen) c.self.view_is) ∙ ap (λ (o : Option (PassOf Entry)). (desk_of o s.publishers.items s.spent).seen) here in
    let current : IsCurrent size (items_in p.seen) s.evaluation s.publishers.items = current_there book size sites stores s.slot.pass p s.evaluation s.publishers.items here (c.self.invariant.1 c.if-self.false) in
    let were : c.deref_mut.result.now ≡ c.args.self.now.publishers = c.deref_mut.ensures.value ∙ (sym (ap (λ (o : Option (PassOf Entry)). (desk_of o s.publishers.items s.spent).publishers) here) ∙ ap (λ (d : DeskOf). d.publishers) c.self.view_is) in
    let after = c.publish_new-published.new.publishers in
    let len : length c.deref_mut.result.now ≡ s.publishers.len = omega (arith, c.deref_mut.ensures.len) in
    let shows = at_ok_on c.publish_new-published.result c.in_ok-published.field-0 c.in_ok-published.was (c.publish_new-published.ensures.one_batch (items_in p.seen) c.take_new-pass.ensures.seen current.evaluated) (λ same. more (same ∙ sym seen_was)) in
    one_batch_whole size c.args.self.now.seen (items_in p.seen) (items_in p'.seen) c.args.self.now.publishers c.deref_mut.result.now after (drop (length after) s.publishers.items) s.publishers.len seen_was were len shows

pub returns-clause-kept : goal.returns-clause-kept
returns-clause-kept g c =
    let book = g.J.Workplace.book in
    let size = g.J.Workplace.size in
    let sites = g.J.Workplace.sites in
    let stores = g.J.Workplace.stores in
    let s = c.self.inside in
    let p = c.unwrap-pass.result in
    let p' = c.take_new-pass.result.pass in
    let here : s.slot.pass ≡ Some p = sym c.take.ensures.value ∙ c.unwrap-pass.ensures in
    let seen_was : c.args.self.now.seen ≡ items_in p.seen = sym (ap (λ (d : DeskOf). d.seen) c.self.view_is) ∙ ap (λ (o : Option (PassOf Entry)). (desk_of o s.publishers.items s.spent).seen) here in
    let current : IsCurrent size (items_in p.seen) s.evaluation s.publishers.items = current_there book size sites stores s.slot.pass p s.evaluation s.publishers.items here (c.self.invariant.1 c.if-self.false) in
    let were : c.deref_mut.result.now ≡ c.args.self.now.publishers = c.deref_mut.ensures.value ∙ (sym (ap (λ (o : Option (PassOf Entry)). (desk_of o s.publishers.items s.spent).publishers) here) ∙ ap (λ (d : DeskOf). d.publishers) c.self.view_is) in
    let after = c.publish_new-published.new.publishers in
    let len : length c.deref_mut.result.now ≡ s.publishers.len = omega (arith, c.deref_mut.ensures.len) in
    kept_whole size c.args.self.now.seen (items_in p.seen) (items_in p'.seen) c.args.self.now.publishers c.deref_mut.result.now after (drop (length after) s.publishers.items) s.publishers.len seen_was were len (c.publish_new-published.ensures.kept (items_in p.seen) current.evaluated)

pub returns-clause-seen : goal.returns-clause-seen
returns-clause-seen g c =
    let book = g.J.Workplace.book in
    let size = g.J.Workplace.size in
    let sites = g.J.Workplace.sites in
    let stores = g.J.Workplace.stores in
    let s = c.self.inside in
    let p = c.unwrap-pass.result in
    let p' = c.take_new-pass.result.pass in
    let here : s.slot.pass ≡ Some p = sym c.take.ensures.value ∙ c.unwrap-pass.ensures in
    let seen_was : c.args.self.now.seen ≡ items_in p.seen = sym (ap (λ (d : DeskOf). d.seen) c.self.view_is) ∙ ap (λ (o : Option (PassOf Entry)). (desk_of o s.publishers.items s.spent).seen) here in
    subst (λ (l : List Entry). IsPrefixOf l (items_in p'.seen)) (sym seen_was) c.take_new-pass.ensures.seen

pub returns-in_err-published-clause-kept : goal.returns-in_err-published-clause-kept
returns-in_err-published-clause-kept g c =
    let book = g.J.Workplace.book in
    let size = g.J.Workplace.size in
    let sites = g.J.Workplace.sites in
    let stores = g.J.Workplace.stores in
    let s = c.self.inside in
    let p = c.unwrap-pass.result in
    let p' = c.take_new-pass.result.pass in
    let here : s.slot.pass ≡ Some p = sym c.take.ensures.value ∙ c.unwrap-pass.ensures in
    let seen_was : c.args.self.now.seen ≡ items_in p.seen = sym (ap (λ (d : DeskOf). d.seen) c.self.view_is) ∙ ap (λ (o : Option (PassOf Entry)). (desk_of o s.publishers.items s.spent).seen) here in
    let current : IsCurrent size (items_in p.seen) s.evaluation s.publishers.items = current_there book size sites stores s.slot.pass p s.evaluation s.publishers.items here (c.self.invariant.1 c.if-self.false) in
    let were : c.deref_mut.result.now ≡ c.args.self.now.publishers = c.deref_mut.ensures.value ∙ (sym (ap (λ (o : Option (PassOf Entry)). (desk_of o s.publishers.items s.spent).publishers) here) ∙ ap (λ (d : DeskOf). d.publishers) c.self.view_is) in
    let after = c.publish_new-published.new.publishers in
    let len : length c.deref_mut.result.now ≡ s.publishers.len = omega (arith, c.deref_mut.ensures.len) in
    kept_whole size c.args.self.now.seen (items_in p.seen) (items_in p'.seen) c.args.self.now.publishers c.deref_mut.result.now after (drop (length after) s.publishers.items) s.publishers.len seen_was were len (c.publish_new-published.ensures.kept (items_in p.seen) current.evaluated)

pub returns-in_err-published-clause-seen : goal.returns-in_err-published-clause-seen
returns-in_err-published-clause-seen g c =
    let book = g.J.Workplace.book in
    let size = g.J.Workplace.size in
    let sites = g.J.Workplace.sites in
    let stores = g.J.Workplace.stores in
    let s = c.self.inside in
    let p = c.unwrap-pass.result in
    let p' = c.take_new-pass.result.pass in
    let here : s.slot.pass ≡ Some p = sym c.take.ensures.value ∙ c.unwrap-pass.ensures in
    let seen_was : c.args.self.now.seen ≡ items_in p.seen = sym (ap (λ (d : DeskOf). d.seen) c.self.view_is) ∙ ap (λ (o : Option (PassOf Entry)). (desk_of o s.publishers.items s.spent).seen) here in
    subst (λ (l : List Entry). IsPrefixOf l (items_in p'.seen)) (sym seen_was) c.take_new-pass.ensures.seen

pub returns-then-self-clause-kept : goal.returns-then-self-clause-kept
returns-then-self-clause-kept g c = none_published (batch_of g.J.Workplace.size c.args.self.now.seen c.args.self.now.seen) c.args.self.now.publishers

pub returns-then-self-clause-seen : goal.returns-then-self-clause-seen
returns-then-self-clause-seen g c = begins_itself c.args.self.now.seen
