use Rattle.std.proofs.Common.{sym, subst}
use Rattle.sheet_ops.specs.declared.operation.Effect.{Effect}
use Rattle.sheet_ops.specs.Fits.{EffectFits}
use Rattle.sheet_ops.specs.Placed.{placed_size}
use Rattle.sheet_ops.proofs.Again.{own_effect_fits}
use Rattle.sheet_grid.specs.Values.{placed_in}
use Rattle.name_model.proofs.steps.apply_own.Goals as goal

pub apply_effect-requires-clause-fits : goal.apply_effect-requires-clause-fits
apply_effect-requires-clause-fits c =
    let size = placed_size (placed_in c.args.sheet.now) in
    subst (λ (e : Effect). EffectFits size e) (sym c.in_ok-effect.ensures) (own_effect_fits size c.args.own.now c.requires.fits)
