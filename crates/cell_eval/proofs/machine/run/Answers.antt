use Rattle.std.proofs.Common.{List, ap, sym, ◌∙◌}
use Rattle.formula_code.specs.declared.step.Step.{Step}
use Rattle.cell_eval.specs.Machine.{run}
use Rattle.cell_eval.proofs.Runs.{one_step}
use Rattle.cell_eval.proofs.machine.run.Goals as goal

pub loop-step-preserved : goal.loop-step-preserved
loop-step-preserved g c =
    let E = g.L.Look.environment c.args.look.now in
    ap (λ (l : List Step). run E 0 l c.perform.new.stack) c.past-left.ensures
    ∙ (sym (one_step E c.loop-step.left.now c.in-Some.behind.now c.in-Some.step.now c.loop-step.stack c.perform.new.stack c.in_ok-passed.passed c.in-Some.ensures.cases.0 c.in_ok-passed.ensures)
    ∙ c.loop-step.invariant)
