use Rattle.std.proofs.Common.{◌≡◌, ap, sym, ◌∙◌, subst}
use Rattle.std.proofs.lemmas.Result.{on_ok_weaker}
use Rattle.sheet_ops.specs.declared.operation.Effect.{Effect}
use Rattle.sheet_ops.specs.declared.operation.Effect.TheVariants as effect
use Rattle.sheet_ops.specs.Placed.{placed_size}
use Rattle.sheet_ops.specs.Chains.{size_past}
use Rattle.sheet_ops.specs.Fits.{EffectFits}
use Rattle.sheet_ops.specs.Effects.{effect_on, StepsTo}
use Rattle.sheet_ops.specs.Naming.{effect_of_intent}
use Rattle.sheet_ops.proofs.Again.{own_effect_fits}
use Rattle.sheet_ops.proofs.Sizes.{size_on, room_for}
use Rattle.sheet_grid.specs.Values.{placed_in}
use Rattle.jup_client.proofs.client.apply_own.Goals as goal

pub apply_write-requires : goal.apply_write-requires
apply_write-requires c =
    let wrote : effect.Write c.as_slice.result.now ≡ effect_of_intent c.args.intent.now = ap effect.Write c.as_slice.ensures ∙ ap effect_of_intent (sym c.in-Write.is) in
    subst (λ (e : Effect). EffectFits (placed_size (placed_in c.args.sheet.now)) e) (sym wrote) (own_effect_fits (placed_size (placed_in c.args.sheet.now)) c.args.intent.now c.requires.fits)

pub returns-in-Write-clause-ok : goal.returns-in-Write-clause-ok
returns-in-Write-clause-ok c =
    let wrote : effect.Write c.as_slice.result.now ≡ effect_of_intent c.args.intent.now = ap effect.Write c.as_slice.ensures ∙ ap effect_of_intent (sym c.in-Write.is) in
    on_ok_weaker c.apply_write.result (λ is. is ∙ ap (effect_on (placed_in c.args.sheet.now)) wrote) c.apply_write.ensures.ok

pub returns-in-Write-clause-step : goal.returns-in-Write-clause-step
returns-in-Write-clause-step c =
    let wrote : effect.Write c.as_slice.result.now ≡ effect_of_intent c.args.intent.now = ap effect.Write c.as_slice.ensures ∙ ap effect_of_intent (sym c.in-Write.is) in
    on_ok_weaker c.apply_write.result (λ steps. subst (λ (e : Effect). StepsTo (placed_in c.args.sheet.now) e (placed_in c.apply_write.new.self)) wrote steps) c.apply_write.ensures.step

pub returns-in-Write-clause-size : goal.returns-in-Write-clause-size
returns-in-Write-clause-size c =
    let wrote : effect.Write c.as_slice.result.now ≡ effect_of_intent c.args.intent.now = ap effect.Write c.as_slice.ensures ∙ ap effect_of_intent (sym c.in-Write.is) in
    on_ok_weaker c.apply_write.result (λ is. is ∙ ap (λ (e : Effect). size_past (placed_size (placed_in c.args.sheet.now)) e) wrote) c.apply_write.ensures.sized

pub effect_of-requires : goal.effect_of-requires
effect_of-requires c = (placed_size (placed_in c.args.sheet.now), c.requires.fits)

pub apply-requires-clause-fits : goal.apply-requires-clause-fits
apply-requires-clause-fits c = subst (λ (e : Effect). EffectFits (placed_size (placed_in c.args.sheet.now)) e) (sym c.in_ok-effect-in_default.ensures) (own_effect_fits (placed_size (placed_in c.args.sheet.now)) c.args.intent.now c.requires.fits)

pub apply-requires-clause-room : goal.apply-requires-clause-room
apply-requires-clause-room c = room_for (placed_size (placed_in c.args.sheet.now)) c.in_ok-effect-in_default.effect c.requires.rows c.requires.cols

pub returns-in_ok-effect-in_default-clause-ok : goal.returns-in_ok-effect-in_default-clause-ok
returns-in_ok-effect-in_default-clause-ok c = on_ok_weaker c.apply.result (λ is. is ∙ ap (effect_on (placed_in c.args.sheet.now)) c.in_ok-effect-in_default.ensures) c.apply.ensures.ok

pub returns-in_ok-effect-in_default-clause-size : goal.returns-in_ok-effect-in_default-clause-size
returns-in_ok-effect-in_default-clause-size c =
    let fit = subst (λ (e : Effect). EffectFits (placed_size (placed_in c.args.sheet.now)) e) (sym c.in_ok-effect-in_default.ensures) (own_effect_fits (placed_size (placed_in c.args.sheet.now)) c.args.intent.now c.requires.fits) in
    on_ok_weaker c.apply.result (λ is. ap placed_size is ∙ (size_on (placed_in c.args.sheet.now) c.in_ok-effect-in_default.effect fit ∙ ap (λ (e : Effect). size_past (placed_size (placed_in c.args.sheet.now)) e) c.in_ok-effect-in_default.ensures)) c.apply.ensures.ok
