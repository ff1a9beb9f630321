-- What holds of the pair of an own operation and another's effect.
use Rattle.std.proofs.Common.{◌≡◌, sym, subst}
use Rattle.ss_base.specs.declared.types.Size.{Size}
use Rattle.sheet_ops.specs.declared.operation.Effect.{Effect}
use Rattle.sheet_ops.specs.declared.operation.Intent.{Intent}
use Rattle.sheet_ops.specs.Fits.{IntentFits, EffectFits}
use Rattle.sheet_ops.specs.Naming.{effect_of_intent}
use Rattle.sheet_ops.specs.Chains.{size_past}
use Rattle.sheet_ops.specs.Squares.{Converges}
use Rattle.sheet_ops.specs.Transforms.{own_past, other_past}
use Rattle.sheet_ops.proofs.Convergence.{converges}
use Rattle.sheet_ops.proofs.Published.{own_fits_again, effect_fits_again}

module _ (size : Size) (c : Intent) (e : Effect) (f : IntentFits size c) (g : EffectFits size e) (c' : Intent) (e' : Effect) (own : c' ≡ own_past c e) (other : e' ≡ other_past size c e) where
  pub pair_converges : Converges size c e c' e'
  pair_converges =
      subst (λ (d : Intent). Converges size c e d e') (sym own) (subst (λ (d : Effect). Converges size c e (own_past c e) d) (sym other) (converges size c e f g))

  pub own_fits : IntentFits (size_past size e) c'
  own_fits = own_fits_again size c e c' e' f g pair_converges

  pub other_fits : EffectFits (size_past size (effect_of_intent c)) e'
  other_fits = effect_fits_again size c e c' e' f g pair_converges
