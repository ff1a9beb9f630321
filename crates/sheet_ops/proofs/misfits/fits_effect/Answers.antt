use Rattle.std.proofs.Common.{ℕ, sym, ◌∙◌, subst}
use Rattle.std.specs.Prelude.{Option, ◌↔◌, IsNone}
use Rattle.sheet_ops.specs.Fits.{EffectFits}
use Rattle.sheet_ops.specs.Misfits.{effect_tests}
use Rattle.sheet_ops.proofs.FirstMisfit.{misfit_walked, effect_misfit}
use Rattle.sheet_ops.proofs.misfits.fits_effect.Goals as goal

pub returns-clause-misfit : goal.returns-clause-misfit
returns-clause-misfit c = c.err.ensures.value ∙ misfit_walked (effect_tests c.args.size c.args.effect.now) c.walk_effect.result c.walk_effect.ensures.walk

pub returns-clause-fits : goal.returns-clause-fits
returns-clause-fits c =
    subst (λ (o : Option ℕ). IsNone o ↔ EffectFits c.args.size c.args.effect.now) (sym (c.err.ensures.value ∙ misfit_walked (effect_tests c.args.size c.args.effect.now) c.walk_effect.result c.walk_effect.ensures.walk)) (effect_misfit c.args.size c.args.effect.now c.walk_effect.ensures.perm)
