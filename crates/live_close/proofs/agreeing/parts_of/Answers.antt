use Rattle.std.proofs.Common.{◌≡◌, ◌∷◌, true, ℕ, List, Some, length, ap, sym, ◌∙◌, subst, arith}
use Rattle.std.specs.Prelude.{slice_get}
use Rattle.std.specs.Vec.Iter.{into_iter_items}
use Rattle.value_snap.specs.Lists.{is_ended}
use Rattle.value_snap.specs.Stores.{PublisherOf}
use Rattle.live_site.specs.declared.run.SiteEnd.{SiteEnd}
use Rattle.live_close.specs.Parts.{parts_of, AllKnow}
use Rattle.live_close.proofs.Lists.{all_from, all_there, each_more, gone_on, gone_through, next_behind}
use Rattle.live_close.proofs.Settled.{so_many, more_parts, more_known, publisher_there}
use Rattle.live_close.proofs.agreeing.parts_of.Goals as goal

pub add-requires : goal.add-requires
add-requires g c =
    let at = c.loop-end in
    let e = c.in-Some.end in
    let q = c.index-publishers-place.result in
    let there = next_behind at.yielded e (into_iter_items at.end-iterator) (into_iter_items c.next.new.self) c.args.ends c.in-Some.ensures.steps.0 at.invariant.left in
    let place = c.len-place.ensures ∙ so_many c.args.pass at.parts at.yielded at.invariant.parts in
    let here = publisher_there c.args.ends c.args.publishers.now (length at.yielded) c.len-place.result e q c.requires.stores there place c.index-publishers-place.is in
    record {
      store = c.requires.stores.each (length at.yielded) e q there here;
      closed = all_there (λ (p : PublisherOf). is_ended p.list ≡ true) c.args.publishers.now c.requires.closed (length at.yielded) q here;
    }

pub loop-end-preserved : goal.loop-end-preserved
loop-end-preserved g c =
    let at = c.loop-end in
    let e = c.in-Some.end in
    let q = c.index-publishers-place.result in
    let first : into_iter_items at.end-iterator ≡ e ∷ into_iter_items c.next.new.self = c.in-Some.ensures.steps.0 in
    let there = next_behind at.yielded e (into_iter_items at.end-iterator) (into_iter_items c.next.new.self) c.args.ends first at.invariant.left in
    let place = c.len-place.ensures ∙ so_many c.args.pass at.parts at.yielded at.invariant.parts in
    let here = publisher_there c.args.ends c.args.publishers.now (length at.yielded) c.len-place.result e q c.requires.stores there place c.index-publishers-place.is in
    record {
      left = gone_on at.yielded e (into_iter_items at.end-iterator) (into_iter_items c.next.new.self) c.args.ends first at.invariant.left;
      count = let was = at.invariant.count in let gone = c.in-Some.ensures.steps.1 in let short = ap length first in omega (arith, was, gone, short);
      parts = more_parts c.args.pass at.parts c.add.new.self at.yielded e at.invariant.parts c.in_ok-add.ensures.parts;
      known = more_known at.yielded c.args.publishers.now e q at.invariant.known here c.in_ok-add.ensures.known;
      done = each_more (λ k (x : SiteEnd). x.done ≡ true) at.yielded e at.invariant.done c.in_ok-add.ensures.done;
    }

pub returns : goal.returns
returns g c =
    let at = c.loop-end in
    let all = gone_through at.yielded (into_iter_items at.end-iterator) c.args.ends (sym at.invariant.count ∙ c.in-None.ensures.steps.0) at.invariant.left in
    record {
      parts = at.invariant.parts ∙ ap (parts_of c.args.pass) all;
      done = all_from (λ (e : SiteEnd). e.done ≡ true) c.args.ends (subst (λ (es : List SiteEnd). (k : ℕ) (e : SiteEnd) → slice_get es k ≡ Some e → e.done ≡ true) all at.invariant.done);
      known = subst (λ (es : List SiteEnd). AllKnow es c.args.publishers.now) all at.invariant.known;
    }
