use Rattle.full_calc.proofs.Counted.{AreCountsTo}
use Rattle.full_calc.proofs.lines.counts.Given as goal

abbrev pub invariant-loop-hidden : goal.invariant-loop-hidden
invariant-loop-hidden l = AreCountsTo l.marks l.hidden-index l.count l.before.items
