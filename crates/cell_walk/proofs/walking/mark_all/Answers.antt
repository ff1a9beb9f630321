use Rattle.cell_walk.proofs.Hues.{mark_more}
use Rattle.cell_walk.proofs.walking.mark_all.Goals as goal

pub loop-e-preserved : goal.loop-e-preserved
loop-e-preserved c = mark_more c.args.colours.now c.loop-e.colours c.args.stack.now c.loop-e.e-index (record { cell = 0; place = record { reference = 0; row = 0; col = 0 } }) c.requires c.loop-e-test.true c.loop-e.invariant
