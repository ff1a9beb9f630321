use Rattle.std.proofs.Common.{ℕ, subst}
use Rattle.script_run.specs.World.{World}
use Rattle.generated_run.specs.Runs.{generated_world}
use Rattle.generated_run.specs.Summary.{AreFigures}
use Rattle.generated_run.proofs.summary.load_summary.Goals as goal

pub returns-clause-summary : goal.returns-clause-summary
returns-clause-summary c =
    let figures = c.in_ok-figures.figures in
    let ran = subst (λ (w : World). AreFigures w c.in_ok-load.load.refused figures) c.in_ok-load.ensures.run c.in_ok-figures.ensures in
    (figures, subst (λ (n : ℕ). AreFigures (generated_world c.args.number) n figures) c.in_ok-load.ensures.refused ran, c.in_ok-summary.ensures)
