use Rattle.generated_run.proofs.Sites.{IsAfterTurns}
use Rattle.generated_run.proofs.load.Load.turns.Given as goal

abbrev pub invariant-loop-turn : goal.invariant-loop-turn
invariant-loop-turn l = IsAfterTurns l.initial.self.generator.number l.initial.self.run l.turn l.self.run l.self.generator.number l.self.refused
