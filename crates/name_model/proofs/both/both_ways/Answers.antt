use Rattle.std.proofs.Common.{◌≡◌, List, [], ◌∷◌, refl, ap, sym, ◌∙◌, subst}
use Rattle.ss_base.specs.declared.types.Size.{Size}
use Rattle.sheet_ops.specs.declared.operation.Effect.{Effect}
use Rattle.sheet_ops.specs.declared.operation.Intent.{Intent}
use Rattle.sheet_ops.specs.Chains.{size_past}
use Rattle.sheet_ops.specs.Effects.{StepsTo}
use Rattle.sheet_ops.specs.Fits.{IntentFits, EffectFits}
use Rattle.sheet_ops.specs.Naming.{effect_of_intent}
use Rattle.sheet_ops.specs.Placed.{PlacedSheet, placed_size}
use Rattle.sheet_ops.specs.Transforms.{own_past, other_past}
use Rattle.sheet_grid.specs.Kept.{by_numbers}
use Rattle.sheet_grid.specs.Values.{NumberedSheet, kept_in, placed_in}
use Rattle.name_model.proofs.Lifted.{placed-whole}
use Rattle.name_model.proofs.Named.{left_by_identity, right_by_identity, both_same}
use Rattle.name_model.proofs.both.both_ways.Goals as goal

pub apply_own-requires-clause-fits : goal.apply_own-requires-clause-fits
apply_own-requires-clause-fits c =
    let other = c.args.other.now in
    let size : placed_size (placed_in c.apply_effect.new.sheet) ≡ size_past c.size.result other =
    c.in_ok-apply_effect.ensures.size ∙ (ap (λ (V : NumberedSheet). size_past (placed_size (placed_in V)) other) c.in_ok-left.ensures ∙ ap (λ (z : Size). size_past z other) (sym c.size.ensures.size)) in
    subst (λ (z : Size). IntentFits z c.in_ok-own_after.own_after) (sym size) c.in_ok-own_after.ensures.own_fits

pub apply_own-requires-2-clause-fits : goal.apply_own-requires-2-clause-fits
apply_own-requires-2-clause-fits c = subst (λ (V : NumberedSheet). IntentFits (placed_size (placed_in V)) c.args.own.now) (sym c.in_ok-right.ensures) c.requires.own

pub apply_effect-requires-2-clause-fits : goal.apply_effect-requires-2-clause-fits
apply_effect-requires-2-clause-fits c =
    let own = effect_of_intent c.args.own.now in
    let size : placed_size (placed_in c.apply_own-2.new.sheet) ≡ size_past c.size.result own =
    c.in_ok-apply_own-2.ensures.size ∙ (ap (λ (V : NumberedSheet). size_past (placed_size (placed_in V)) own) c.in_ok-right.ensures ∙ ap (λ (z : Size). size_past z own) (sym c.size.ensures.size)) in
    subst (λ (z : Size). EffectFits z c.in_ok-own_after.other_after) (sym size) c.in_ok-own_after.ensures.other_fits

pub returns-clause-other : goal.returns-clause-other
returns-clause-other c = c.in_ok-own_after.ensures.other ∙ ap (λ (z : Size). other_past z c.args.own.now c.args.other.now) c.size.ensures.size

pub returns-clause-left : goal.returns-clause-left
returns-clause-left c =
    let P = placed_in c.args.sheet.now in
    let R = placed_in c.apply_effect.new.sheet in
    let Q = placed_in c.apply_own.new.sheet in
    left_by_identity P (c.args.own.now ∷ []) c.args.other.now (c.requires.own, tt) c.requires.other R Q
    (subst (λ (V : NumberedSheet). StepsTo (placed_in V) c.args.other.now R) c.in_ok-left.ensures c.in_ok-apply_effect.ensures.step)
    (Q, subst (λ (d : Intent). StepsTo R (effect_of_intent d) Q) c.in_ok-own_after.ensures.own c.in_ok-apply_own.ensures.step, refl)

pub returns-clause-right : goal.returns-clause-right
returns-clause-right c =
    let P = placed_in c.args.sheet.now in
    let R = placed_in c.apply_own-2.new.sheet in
    let Q = placed_in c.apply_effect-2.new.sheet in
    right_by_identity P (c.args.own.now ∷ []) c.args.other.now (c.requires.own, tt) c.requires.other R Q
    (R, subst (λ (V : NumberedSheet). StepsTo (placed_in V) (effect_of_intent c.args.own.now) R) c.in_ok-right.ensures c.in_ok-apply_own-2.ensures.step, refl)
    (subst (λ (e : Effect). StepsTo R e Q) (c.in_ok-own_after.ensures.other ∙ ap (λ (z : Size). other_past z c.args.own.now c.args.other.now) c.size.ensures.size) c.in_ok-apply_effect-2.ensures.step)

pub returns-clause-same : goal.returns-clause-same
returns-clause-same c =
    let P = placed_in c.args.sheet.now in
    both_same P (placed-whole (by_numbers (kept_in c.args.sheet.now)) c.size.ensures.inside) (c.args.own.now ∷ []) c.args.other.now (c.requires.own, tt)
    (placed_in c.apply_own.new.sheet) (placed_in c.apply_effect-2.new.sheet) (returns-clause-left c) (returns-clause-right c)
