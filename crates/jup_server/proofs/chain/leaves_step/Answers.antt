use Rattle.std.proofs.Common.{refl, sym, subst, Option}
use Rattle.sheet_ops.specs.declared.operation.Effect.{Effect}
use Rattle.sheet_ops.specs.Fits.{EffectFits}
use Rattle.sheet_ops.specs.Squares.{Converges}
use Rattle.jup_server.specs.Steps.{StepFits, PassesStep}
use Rattle.jup_server.proofs.chain.leaves_step.Goals as goal

pub returns-in-Some-clause-passes : goal.returns-in-Some-clause-passes
returns-in-Some-clause-passes c = λ yes size fits.
    let own = c.args.own.now in
    subst (λ (x : Option Effect). StepFits size x → PassesStep size own x x own) (sym c.in-Some.is)
    (λ effect_fits. (
      c.in-Some.effect,
      subst (λ (e : Effect). Converges size own e own e) c.get.ensures (c.leaves_both.ensures.converges yes size fits (subst (EffectFits size) (sym c.get.ensures) effect_fits)),
      refl,
    ))
