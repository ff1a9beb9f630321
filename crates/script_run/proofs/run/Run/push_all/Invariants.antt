use Rattle.std.proofs.Common.{◌≡◌, None}
use Rattle.script_run.specs.World.{pushed, at_each}
use Rattle.script_run.proofs.run.Run.push_all.Given as goal

abbrev pub invariant-loop-place : goal.invariant-loop-place
invariant-loop-place l = l.self ≡ at_each (λ v p. pushed v p None) 0 l.place l.fn.self
