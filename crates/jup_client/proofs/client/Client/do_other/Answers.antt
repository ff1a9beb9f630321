use Rattle.std.proofs.Common.{List, length, refl, ap, sym, ◌∙◌, subst}
use Rattle.std.specs.Prelude.{reverse, unwrap_or}
use Rattle.sheet_ops.specs.declared.operation.Effect.{Effect}
use Rattle.sheet_ops.specs.declared.operation.Intent.{Intent}
use Rattle.sheet_ops.specs.Chains.{size_past, size_after, EachFitsAfter, PassesOwn}
use Rattle.sheet_ops.specs.Effects.{effect_on, StepsTo}
use Rattle.sheet_ops.specs.Fits.{EffectFits}
use Rattle.sheet_ops.specs.Placed.{placed_size}
use Rattle.sheet_ops.specs.Represents.{ClientState}
use Rattle.sheet_ops.proofs.Sizes.{room_for, size_on}
use Rattle.pair_transform.proofs.Replaced.{length-replaced}
use Rattle.sheet_grid.specs.Values.{placed_in}
use Rattle.jup_client.proofs.Causes.{at_err}
use Rattle.jup_client.proofs.Stays.{has_room, last_fits, other_client, other_state, unchanged}
use Rattle.jup_client.proofs.client.Client.do_other.Goals as goal

pub apply-requires-clause-room : goal.apply-requires-clause-room
apply-requires-clause-room c = let h = has_room _ c.self.invariant in room_for (placed_size (placed_in c.self.inside.sheet)) c.last.result.now h.0 h.1

pub invariant_of-self-2 : goal.invariant_of-self-2
invariant_of-self-2 c =
    let e = c.args.effect.now in
    let last = unwrap_or c.in_ok-passed.passed.other e in
    let P = placed_in c.self.inside.sheet in
    let past = c.in_ok-base.ensures.cause.3 ∙ ap (λ (x : ClientState). size_past x.base e) (sym c.self.view_is) in
    let made = c.replace_front.ensures in
    let fits : EffectFits (placed_size P) c.last.result.now = subst (EffectFits (placed_size P)) (sym c.last.ensures) (last_fits _ c.self.invariant last c.in_ok-passed.ensures.last) in
    other_client _ c.self.invariant e last (placed_in c.apply.new.self)
    (ap placed_size c.in_ok-apply.ensures.ok ∙ (size_on P c.last.result.now fits ∙ ap (size_past (placed_size P)) c.last.ensures))
    c.replace_front.new.list.items
    (subst (λ (ds : List Intent). EachFitsAfter (size_past c.self.inside.base e) (reverse ds)) (sym made) c.in_ok-passed.ensures.fits)
    (ap (λ (ds : List Intent). size_after (size_past c.self.inside.base e) (reverse ds)) made ∙ c.in_ok-passed.ensures.sized)
    (ap length made ∙ length-replaced c.in_ok-passed.passed.own.items c.self.inside.pending.items)
    c.in_ok-base.base past c.in_ok-base.ensures.cause.2 _

pub returns-clause-done : goal.returns-clause-done
returns-clause-done c =
    let e = c.args.effect.now in
    let last = unwrap_or c.in_ok-passed.passed.other e in
    let P = placed_in c.self.inside.sheet in
    let past = c.in_ok-base.ensures.cause.3 ∙ ap (λ (x : ClientState). size_past x.base e) (sym c.self.view_is) in
    other_state _ c.args.self.now c.self.view_is e last c.replace_front.new.list.items
    (subst (λ (ds : List Intent). PassesOwn c.self.inside.base e (reverse c.self.inside.pending.items) (reverse ds) last) (sym c.replace_front.ensures) c.in_ok-passed.ensures.passes)
    (placed_in c.apply.new.self) (c.in_ok-apply.ensures.ok ∙ ap (effect_on P) c.last.ensures) (subst (λ (d : Effect). StepsTo P d (placed_in c.apply.new.self)) c.last.ensures c.in_ok-apply.ensures.step)
    c.in_ok-base.base past _ c.saturating_add-self-inside.ensures

pub returns-in_err-apply-clause-err : goal.returns-in_err-apply-clause-err
returns-in_err-apply-clause-err c =
    at_err _ c.from_residual-in_err-apply.result (unchanged _ c.args.self.now c.self.view_is (placed_in c.apply.new.self) (ap placed_in c.in_err-apply.ensures.err) c.self.inside.pending.items refl)
