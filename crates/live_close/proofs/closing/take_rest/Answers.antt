use Rattle.std.proofs.Common.{◌≡◌, ◌∷◌, [], ◌++◌, suc, List, length, ap, sym, ◌∙◌, subst, arith}
use Rattle.std.specs.Prelude.{vec_len}
use Rattle.std.specs.Vec.Iter.{into_iter_items, into_iter_len}
use Rattle.std.proofs.lemmas.List.{length-append}
use Rattle.sheet_ops.specs.History.{own_entries}
use Rattle.sheet_ops.specs.Represents.{ClientState}
use Rattle.jup_client.specs.declared.Down.{Down}
use Rattle.live_session.specs.Pulling.{AreNextMessages, HasTakenMore}
use Rattle.live_close.specs.Closing.{MayTakeRest, HaveTakenRest}
use Rattle.live_close.proofs.Lists.{gone_on, gone_through, next_behind}
use Rattle.live_close.proofs.Rests.{next_messages, has_taken_all, more_taken}
use Rattle.live_close.proofs.closing.take_rest.Goals as goal

pub site_at-site-requires : goal.site_at-site-requires
site_at-site-requires c =
    let at = c.loop-client in
    let x = c.in-Some.client in
    let there = next_behind at.yielded x (into_iter_items at.client-iterator) (into_iter_items c.next.new.self) c.args.clients c.in-Some.ensures.steps.0 at.invariant.left in
    let to = (c.requires (length at.yielded) x there).to in
    let few = (c.requires (length at.yielded) x there).few in
    let len = c.len.ensures in
    let many = at.invariant.done in
    omega (arith, to, few, len, many)

pub fetch-requires : goal.fetch-requires
fetch-requires c =
    let at = c.loop-client in
    let x = c.in-Some.client in
    let there = next_behind at.yielded x (into_iter_items at.client-iterator) (into_iter_items c.next.new.self) c.args.clients c.in-Some.ensures.steps.0 at.invariant.left in
    let within = (c.requires (length at.yielded) x there).within in
    let from = c.taken.ensures in
    omega (arith, within, from)

pub take_all-requires : goal.take_all-requires
take_all-requires c =
    let at = c.loop-client in
    let x = c.in-Some.client in
    let hub = c.args.hub.now in
    let site = suc (length at.yielded) in
    let there = next_behind at.yielded x (into_iter_items at.client-iterator) (into_iter_items c.next.new.self) c.args.clients c.in-Some.ensures.steps.0 at.invariant.left in
    let may : MayTakeRest hub site x = c.requires (length at.yielded) x there in
    let named = c.site_at-site.ensures in
    let len = c.len.ensures in
    let many = at.invariant.done in
    let number : c.site_at-site.result.0 ≡ site = omega (arith, named, len, many) in
    let next = next_messages hub site x may c.taken.result c.site_at-site.result.0 4294967295 c.in_ok-downs.downs (c.taken.ensures, number, c.in_ok-downs.ensures) in
    (hub.entries, own_entries site hub.entries, subst (AreNextMessages x hub.entries (own_entries site hub.entries)) (sym c.as_slice.ensures) next)

pub loop-client-preserved : goal.loop-client-preserved
loop-client-preserved c =
    let at = c.loop-client in
    let x = c.in-Some.client in
    let hub = c.args.hub.now in
    let site = suc (length at.yielded) in
    let G = own_entries site hub.entries in
    let new = c.take_all.new.client in
    let first : into_iter_items at.client-iterator ≡ x ∷ into_iter_items c.next.new.self = c.in-Some.ensures.steps.0 in
    let there = next_behind at.yielded x (into_iter_items at.client-iterator) (into_iter_items c.next.new.self) c.args.clients first at.invariant.left in
    let may : MayTakeRest hub site x = c.requires (length at.yielded) x there in
    let named = c.site_at-site.ensures in
    let len = c.len.ensures in
    let many = at.invariant.done in
    let was = at.invariant.count in
    let gone = c.in-Some.ensures.steps.1 in
    let short = ap length first in
    let more = c.in_ok-push.ensures.len in
    let longer = length-append at.yielded (x ∷ []) in
    let count : into_iter_len c.next.new.self ≡ length (into_iter_items c.next.new.self) = omega (arith, was, gone, short) in
    let done : vec_len c.push.new.self ≡ length (at.yielded ++ x ∷ []) = omega (arith, more, longer, many) in
    let number : c.site_at-site.result.0 ≡ site = omega (arith, named, len, many) in
    let next = next_messages hub site x may c.taken.result c.site_at-site.result.0 4294967295 c.in_ok-downs.downs (c.taken.ensures, number, c.in_ok-downs.ensures) in
    let took = subst (λ (ds : List Down). HasTakenMore (length ds) x new) c.as_slice.ensures c.in_ok-take_all.ensures.took in
    let represents = c.in_ok-take_all.ensures.represents hub.entries G (subst (AreNextMessages x hub.entries G) (sym c.as_slice.ensures) next) in
    let all = has_taken_all hub site x may c.taken.result c.site_at-site.result.0 4294967295 c.in_ok-downs.downs (c.taken.ensures, number, c.in_ok-downs.ensures) (omega arith) new took represents in
    record {
      left = gone_on at.yielded x (into_iter_items at.client-iterator) (into_iter_items c.next.new.self) c.args.clients first at.invariant.left;
      count = count;
      done = done;
      taken = subst (HaveTakenRest hub (at.yielded ++ x ∷ [])) (sym c.in_ok-push.ensures.items) (more_taken hub at.yielded at.done.items x new at.invariant.taken all);
    }

pub returns : goal.returns
returns c =
    let at = c.loop-client in
    let all = gone_through at.yielded (into_iter_items at.client-iterator) c.args.clients (sym at.invariant.count ∙ c.in-None.ensures.steps.0) at.invariant.left in
    subst (λ (done : List ClientState). HaveTakenRest c.args.hub.now c.args.clients done) (sym c.from_vec.ensures) (subst (λ (old : List ClientState). HaveTakenRest c.args.hub.now old at.done.items) all at.invariant.taken)
