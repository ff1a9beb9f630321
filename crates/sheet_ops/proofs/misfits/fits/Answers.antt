use Rattle.std.proofs.Common.{ℕ, sym, ◌∙◌, subst}
use Rattle.std.specs.Prelude.{Option, ◌↔◌, IsNone}
use Rattle.sheet_ops.specs.Fits.{IntentFits}
use Rattle.sheet_ops.specs.Misfits.{intent_tests}
use Rattle.sheet_ops.proofs.FirstMisfit.{misfit_walked, intent_misfit}
use Rattle.sheet_ops.proofs.misfits.fits.Goals as goal

pub returns-clause-misfit : goal.returns-clause-misfit
returns-clause-misfit c = c.err.ensures.value ∙ misfit_walked (intent_tests c.args.size c.args.intent.now) c.walk_intent.result c.walk_intent.ensures

pub returns-clause-fits : goal.returns-clause-fits
returns-clause-fits c =
    subst (λ (o : Option ℕ). IsNone o ↔ IntentFits c.args.size c.args.intent.now) (sym (c.err.ensures.value ∙ misfit_walked (intent_tests c.args.size c.args.intent.now) c.walk_intent.result c.walk_intent.ensures)) (intent_misfit c.args.size c.args.intent.now)
