use Rattle.std.proofs.Common.{arith}
use Rattle.script_run.proofs.run.Run.unpublished.Goals as goal

pub overflow_sub-result : goal.overflow_sub-result
overflow_sub-result c = omega (arith, c.self.invariant.published.within, c.len.ensures)
