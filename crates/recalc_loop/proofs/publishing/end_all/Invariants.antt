use Rattle.recalc_loop.proofs.publishing.end_all.Given as goal

abbrev pub decreases-loop-publisher : goal.decreases-loop-publisher
decreases-loop-publisher g l = goal.left-loop-publisher g l
