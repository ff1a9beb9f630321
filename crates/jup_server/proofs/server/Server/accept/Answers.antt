use Rattle.std.proofs.Common.{◌≡◌, ◌-◌, ◌++◌, [], ◌∷◌, length, ap, sym, ◌∙◌, subst, arith}
use Rattle.std.specs.Prelude.{unwrap_or}
use Rattle.sheet_ops.specs.Fits.{IntentFits, EffectFits}
use Rattle.sheet_ops.specs.Naming.{effect_of_intent}
use Rattle.sheet_ops.specs.Placed.{placed_size}
use Rattle.sheet_ops.specs.Represents.{ServerState, ServerRepresents}
use Rattle.sheet_ops.specs.Published.{effect_at}
use Rattle.sheet_ops.proofs.Again.{own_effect_fits}
use Rattle.sheet_grid.specs.Values.{placed_in}
use Rattle.jup_server.specs.Servers.{link_at, links_sent, seen_size, entry_of, MayTake}
use Rattle.jup_server.proofs.Submitted.{count_small, sheet_room, length-links_sent, whole_links, x_reaches, x_small, x_fits, size_small, own_fits, y_low, y_many, y_few, server_stands, server_keeps, server_answers, same_state, same_server, at_err}
use Rattle.jup_server.proofs.server.Server.accept.Goals as goal

pub pass-requires-clause-within : goal.pass-requires-clause-within
pass-requires-clause-within c =
    let ok = c.self.invariant in
    let may = subst (λ (s : ServerState). MayTake s c.args.site.0 c.args.up.now) (sym c.self.view_is) c.requires.may in
    let sized = subst (λ (s : ServerState). c.args.size ≡ seen_size (link_at s c.args.site.0) c.args.up.now.seen) (sym c.self.view_is) c.requires.size in
    x_reaches _ ok c.args.site.0 c.args.up.now may c.index.result.now c.index.ensures c.args.size sized

pub pass-requires-clause-rows : goal.pass-requires-clause-rows
pass-requires-clause-rows c =
    let ok = c.self.invariant in
    let may = subst (λ (s : ServerState). MayTake s c.args.site.0 c.args.up.now) (sym c.self.view_is) c.requires.may in
    let sized = subst (λ (s : ServerState). c.args.size ≡ seen_size (link_at s c.args.site.0) c.args.up.now.seen) (sym c.self.view_is) c.requires.size in
    let h = (x_small _ ok c.args.site.0 c.args.up.now may c.index.result.now c.index.ensures c.args.size sized).0 in
    omega (arith, h)

pub pass-requires-clause-cols : goal.pass-requires-clause-cols
pass-requires-clause-cols c =
    let ok = c.self.invariant in
    let may = subst (λ (s : ServerState). MayTake s c.args.site.0 c.args.up.now) (sym c.self.view_is) c.requires.may in
    let sized = subst (λ (s : ServerState). c.args.size ≡ seen_size (link_at s c.args.site.0) c.args.up.now.seen) (sym c.self.view_is) c.requires.size in
    let h = (x_small _ ok c.args.site.0 c.args.up.now may c.index.result.now c.index.ensures c.args.size sized).1 in
    omega (arith, h)

pub pass-requires-clause-chain : goal.pass-requires-clause-chain
pass-requires-clause-chain c =
    let ok = c.self.invariant in
    let may = subst (λ (s : ServerState). MayTake s c.args.site.0 c.args.up.now) (sym c.self.view_is) c.requires.may in
    let sized = subst (λ (s : ServerState). c.args.size ≡ seen_size (link_at s c.args.site.0) c.args.up.now.seen) (sym c.self.view_is) c.requires.size in
    x_fits _ ok c.args.site.0 c.args.up.now may c.index.result.now c.index.ensures c.args.size sized

pub effect_of-requires : goal.effect_of-requires
effect_of-requires c =
    let ok = c.self.invariant in
    let may = subst (λ (s : ServerState). MayTake s c.args.site.0 c.args.up.now) (sym c.self.view_is) c.requires.may in
    let sized = subst (λ (s : ServerState). c.args.size ≡ seen_size (link_at s c.args.site.0) c.args.up.now.seen) (sym c.self.view_is) c.requires.size in
    let last = unwrap_or c.in_ok-passed.passed.own c.args.up.now.intent in
    let size = placed_size (placed_in c.self.inside.sheet) in
    (size, subst (IntentFits size) (sym c.last.ensures) (own_fits _ ok c.args.site.0 c.args.up.now may c.index.result.now c.index.ensures c.args.size sized c.in_ok-passed.passed.steps.items last c.in_ok-passed.ensures.passes c.in_ok-passed.ensures.many))

pub send_all-requires-clause-fits : goal.send_all-requires-clause-fits
send_all-requires-clause-fits c =
    let ok = c.self.invariant in
    let may = subst (λ (s : ServerState). MayTake s c.args.site.0 c.args.up.now) (sym c.self.view_is) c.requires.may in
    let sized = subst (λ (s : ServerState). c.args.size ≡ seen_size (link_at s c.args.site.0) c.args.up.now.seen) (sym c.self.view_is) c.requires.size in
    let last = unwrap_or c.in_ok-passed.passed.own c.args.up.now.intent in
    let size = placed_size (placed_in c.self.inside.sheet) in
    subst (EffectFits size) (sym (c.in_ok-effect.ensures ∙ ap effect_of_intent c.last.ensures)) (own_effect_fits size last (own_fits _ ok c.args.site.0 c.args.up.now may c.index.result.now c.index.ensures c.args.size sized c.in_ok-passed.passed.steps.items last c.in_ok-passed.ensures.passes c.in_ok-passed.ensures.many))

pub send_all-requires-clause-rows : goal.send_all-requires-clause-rows
send_all-requires-clause-rows c =
    let ok = c.self.invariant in
    let may = subst (λ (s : ServerState). MayTake s c.args.site.0 c.args.up.now) (sym c.self.view_is) c.requires.may in
    let sized = subst (λ (s : ServerState). c.args.size ≡ seen_size (link_at s c.args.site.0) c.args.up.now.seen) (sym c.self.view_is) c.requires.size in
    (sheet_room _ ok c.args.site.0 c.args.up.now may).0

pub send_all-requires-clause-cols : goal.send_all-requires-clause-cols
send_all-requires-clause-cols c =
    let ok = c.self.invariant in
    let may = subst (λ (s : ServerState). MayTake s c.args.site.0 c.args.up.now) (sym c.self.view_is) c.requires.may in
    let sized = subst (λ (s : ServerState). c.args.size ≡ seen_size (link_at s c.args.site.0) c.args.up.now.seen) (sym c.self.view_is) c.requires.size in
    (sheet_room _ ok c.args.site.0 c.args.up.now may).1

pub size_past_own-base-requires : goal.size_past_own-base-requires
size_past_own-base-requires c =
    let ok = c.self.invariant in
    let may = subst (λ (s : ServerState). MayTake s c.args.site.0 c.args.up.now) (sym c.self.view_is) c.requires.may in
    let sized = subst (λ (s : ServerState). c.args.size ≡ seen_size (link_at s c.args.site.0) c.args.up.now.seen) (sym c.self.view_is) c.requires.size in
    let h = size_small _ ok c.args.site.0 c.args.up.now may c.index.result.now c.index.ensures c.args.size sized in
    (omega (arith, h.0), omega (arith, h.1))

pub advance-requires-clause-low : goal.advance-requires-clause-low
advance-requires-clause-low c =
    let ok = c.self.invariant in
    let may = subst (λ (s : ServerState). MayTake s c.args.site.0 c.args.up.now) (sym c.self.view_is) c.requires.may in
    let sized = subst (λ (s : ServerState). c.args.size ≡ seen_size (link_at s c.args.site.0) c.args.up.now.seen) (sym c.self.view_is) c.requires.size in
    let last = unwrap_or c.in_ok-passed.passed.own c.args.up.now.intent in
    let e = c.in_ok-effect.effect in
    let made = c.in_ok-effect.ensures ∙ ap effect_of_intent c.last.ensures in
    let sent = c.in_ok-send_all.ensures.links ∙ ap (links_sent 0 (c.args.site.0 - 1) e) c.as_mut_slice.ensures.value in
    let many = ap length sent ∙ length-links_sent 0 (c.args.site.0 - 1) e c.self.inside.links.items in
    let whole = whole_links c.self.inside.links.len c.send_all.new.links c.self.inside.links.items (omega arith) many ∙ sent in
    y_low _ ok c.args.site.0 c.args.up.now may c.index.result.now c.index.ensures c.args.size sized c.in_ok-passed.passed.steps.items last c.in_ok-passed.ensures.passes c.in_ok-passed.ensures.many e made _ whole c.index_mut.result.now c.index_mut.ensures.value

pub advance-requires-clause-many : goal.advance-requires-clause-many
advance-requires-clause-many c =
    let ok = c.self.invariant in
    let may = subst (λ (s : ServerState). MayTake s c.args.site.0 c.args.up.now) (sym c.self.view_is) c.requires.may in
    let sized = subst (λ (s : ServerState). c.args.size ≡ seen_size (link_at s c.args.site.0) c.args.up.now.seen) (sym c.self.view_is) c.requires.size in
    let last = unwrap_or c.in_ok-passed.passed.own c.args.up.now.intent in
    let e = c.in_ok-effect.effect in
    let made = c.in_ok-effect.ensures ∙ ap effect_of_intent c.last.ensures in
    let sent = c.in_ok-send_all.ensures.links ∙ ap (links_sent 0 (c.args.site.0 - 1) e) c.as_mut_slice.ensures.value in
    let many = ap length sent ∙ length-links_sent 0 (c.args.site.0 - 1) e c.self.inside.links.items in
    let whole = whole_links c.self.inside.links.len c.send_all.new.links c.self.inside.links.items (omega arith) many ∙ sent in
    y_many _ ok c.args.site.0 c.args.up.now may c.index.result.now c.index.ensures c.args.size sized c.in_ok-passed.passed.steps.items last c.in_ok-passed.ensures.passes c.in_ok-passed.ensures.many e made _ whole c.index_mut.result.now c.index_mut.ensures.value

pub advance-requires-clause-few : goal.advance-requires-clause-few
advance-requires-clause-few c =
    let ok = c.self.invariant in
    let may = subst (λ (s : ServerState). MayTake s c.args.site.0 c.args.up.now) (sym c.self.view_is) c.requires.may in
    let sized = subst (λ (s : ServerState). c.args.size ≡ seen_size (link_at s c.args.site.0) c.args.up.now.seen) (sym c.self.view_is) c.requires.size in
    let last = unwrap_or c.in_ok-passed.passed.own c.args.up.now.intent in
    let e = c.in_ok-effect.effect in
    let made = c.in_ok-effect.ensures ∙ ap effect_of_intent c.last.ensures in
    let sent = c.in_ok-send_all.ensures.links ∙ ap (links_sent 0 (c.args.site.0 - 1) e) c.as_mut_slice.ensures.value in
    let many = ap length sent ∙ length-links_sent 0 (c.args.site.0 - 1) e c.self.inside.links.items in
    let whole = whole_links c.self.inside.links.len c.send_all.new.links c.self.inside.links.items (omega arith) many ∙ sent in
    y_few _ ok c.args.site.0 c.args.up.now may c.index.result.now c.index.ensures c.args.size sized c.in_ok-passed.passed.steps.items last c.in_ok-passed.ensures.passes c.in_ok-passed.ensures.many e made _ whole c.index_mut.result.now c.index_mut.ensures.value

pub overflow_add-self : goal.overflow_add-self
overflow_add-self c =
    let ok = c.self.invariant in
    let may = subst (λ (s : ServerState). MayTake s c.args.site.0 c.args.up.now) (sym c.self.view_is) c.requires.may in
    let sized = subst (λ (s : ServerState). c.args.size ≡ seen_size (link_at s c.args.site.0) c.args.up.now.seen) (sym c.self.view_is) c.requires.size in
    let h = count_small _ ok c.args.site.0 c.args.up.now may in
    omega (arith, h)

pub invariant_of-self-2 : goal.invariant_of-self-2
invariant_of-self-2 c =
    let ok = c.self.invariant in
    let may = subst (λ (s : ServerState). MayTake s c.args.site.0 c.args.up.now) (sym c.self.view_is) c.requires.may in
    let sized = subst (λ (s : ServerState). c.args.size ≡ seen_size (link_at s c.args.site.0) c.args.up.now.seen) (sym c.self.view_is) c.requires.size in
    let last = unwrap_or c.in_ok-passed.passed.own c.args.up.now.intent in
    let e = c.in_ok-effect.effect in
    let made = c.in_ok-effect.ensures ∙ ap effect_of_intent c.last.ensures in
    let sent = c.in_ok-send_all.ensures.links ∙ ap (links_sent 0 (c.args.site.0 - 1) e) c.as_mut_slice.ensures.value in
    let many = ap length sent ∙ length-links_sent 0 (c.args.site.0 - 1) e c.self.inside.links.items in
    let whole = whole_links c.self.inside.links.len c.send_all.new.links c.self.inside.links.items (omega arith) many ∙ sent in
    server_keeps _ ok c.args.site.0 c.args.up.now may c.index.result.now c.index.ensures c.args.size sized c.in_ok-passed.passed.steps.items last c.in_ok-passed.ensures.passes c.in_ok-passed.ensures.many e made _ whole c.index_mut.result.now c.index_mut.ensures.value c.size_past_own-base.result c.size_past_own-base.ensures c.advance.new.self c.advance.ensures
    (placed_in c.send_all.new.sheet) c.in_ok-send_all.ensures.sheet

pub returns-clause-represents : goal.returns-clause-represents
returns-clause-represents c H r =
    let ok = c.self.invariant in
    let may = subst (λ (s : ServerState). MayTake s c.args.site.0 c.args.up.now) (sym c.self.view_is) c.requires.may in
    let sized = subst (λ (s : ServerState). c.args.size ≡ seen_size (link_at s c.args.site.0) c.args.up.now.seen) (sym c.self.view_is) c.requires.size in
    let last = unwrap_or c.in_ok-passed.passed.own c.args.up.now.intent in
    let e = c.in_ok-effect.effect in
    let made = c.in_ok-effect.ensures ∙ ap effect_of_intent c.last.ensures in
    let sent = c.in_ok-send_all.ensures.links ∙ ap (links_sent 0 (c.args.site.0 - 1) e) c.as_mut_slice.ensures.value in
    let many = ap length sent ∙ length-links_sent 0 (c.args.site.0 - 1) e c.self.inside.links.items in
    let whole = whole_links c.self.inside.links.len c.send_all.new.links c.self.inside.links.items (omega arith) many ∙ sent in
    server_stands _ ok c.args.site.0 c.args.up.now may c.index.result.now c.index.ensures c.args.size sized c.in_ok-passed.passed.steps.items last c.in_ok-passed.ensures.passes c.in_ok-passed.ensures.many e made _ whole c.index_mut.result.now c.index_mut.ensures.value c.size_past_own-base.result c.size_past_own-base.ensures c.advance.new.self c.advance.ensures
    (placed_in c.send_all.new.sheet) c.in_ok-send_all.ensures.sheet H (subst (λ (s : ServerState). ServerRepresents s H) (sym c.self.view_is) r)

pub returns-clause-effect : goal.returns-clause-effect
returns-clause-effect c H r =
    let ok = c.self.invariant in
    let may = subst (λ (s : ServerState). MayTake s c.args.site.0 c.args.up.now) (sym c.self.view_is) c.requires.may in
    let sized = subst (λ (s : ServerState). c.args.size ≡ seen_size (link_at s c.args.site.0) c.args.up.now.seen) (sym c.self.view_is) c.requires.size in
    let last = unwrap_or c.in_ok-passed.passed.own c.args.up.now.intent in
    let e = c.in_ok-effect.effect in
    let made = c.in_ok-effect.ensures ∙ ap effect_of_intent c.last.ensures in
    subst (λ (s : ServerState). e ≡ effect_at s.size (H ++ entry_of c.args.site.0 c.args.up.now ∷ []) (length H)) c.self.view_is
    (server_answers _ ok c.args.site.0 c.args.up.now may c.index.result.now c.index.ensures c.args.size sized c.in_ok-passed.passed.steps.items last c.in_ok-passed.ensures.passes c.in_ok-passed.ensures.many e made H (subst (λ (s : ServerState). ServerRepresents s H) (sym c.self.view_is) r))

pub invariant_of-self : goal.invariant_of-self
invariant_of-self c =
    let back = c.in_err-send_all.ensures.links_err ∙ c.as_mut_slice.ensures.value in
    let whole = whole_links c.self.inside.links.len c.send_all.new.links c.self.inside.links.items (omega arith) (ap length back) ∙ back in
    same_server _ _ (placed_in c.self.inside.sheet) (placed_in c.send_all.new.sheet) c.self.inside.links.items _ whole (ap placed_in c.in_err-send_all.ensures.sheet_err) c.self.invariant

pub returns-in_err-send_all-clause-err : goal.returns-in_err-send_all-clause-err
returns-in_err-send_all-clause-err c =
    let back = c.in_err-send_all.ensures.links_err ∙ c.as_mut_slice.ensures.value in
    let whole = whole_links c.self.inside.links.len c.send_all.new.links c.self.inside.links.items (omega arith) (ap length back) ∙ back in
    at_err _ c.from_residual-in_err-send_all.result
    (same_state c.self.inside.size c.self.inside.count (placed_in c.self.inside.sheet) (placed_in c.send_all.new.sheet) c.self.inside.links.items _ whole (ap placed_in c.in_err-send_all.ensures.sheet_err) ∙ c.self.view_is)
