use Rattle.std.proofs.Common.{sym, subst, Option}
use Rattle.std.specs.Prelude.{unwrap_or}
use Rattle.sheet_ops.specs.declared.operation.Effect.{Effect}
use Rattle.sheet_ops.specs.Squares.{Converges}
use Rattle.jup_server.specs.Steps.{PassesStep}
use Rattle.jup_server.proofs.chain.pass_step.Goals as goal

pub returns-in_ok-changed_step-in-Some-clause-passes : goal.returns-in_ok-changed_step-in-Some-clause-passes
returns-in_ok-changed_step-in-Some-clause-passes c =
    let own = c.args.own.now in
    let effect = c.in-Some.effect in
    let change = c.in_ok-own_change-in-Some.effect_change in
    let last = unwrap_or c.in_ok-own_change-in-Some.own_change own in
    subst (λ (x : Option Effect). PassesStep c.args.size own x (unwrap_or c.in_ok-changed_step-in-Some.field-0 x) last) (sym c.in-Some.is) (
      unwrap_or change effect,
      subst (λ (e : Effect). Converges c.args.size own e last (unwrap_or change e)) c.get.ensures c.in_ok-own_change-in-Some.ensures.converges,
      c.in_ok-changed_step-in-Some.ensures effect,
    )
