use Rattle.generated_run.specs.Summary.{HowMany, EqualsServer}
use Rattle.generated_run.proofs.figures.equal_replicas.Given as goal

abbrev pub invariant-loop-place : goal.invariant-loop-place
invariant-loop-place l = HowMany (EqualsServer l.run) l.place l.equal
