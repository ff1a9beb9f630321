use Rattle.formula_read.proofs.Stops.{Reaches}
use Rattle.formula_read.proofs.front.refusal.Given as goal

abbrev pub invariant-loop-i : goal.invariant-loop-i
invariant-loop-i l = Reaches l.text l.i l.place l.token
