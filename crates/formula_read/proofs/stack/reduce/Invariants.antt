use Rattle.std.proofs.Common.{◌≡◌, length}
use Rattle.std.specs.Prelude.{reverse}
use Rattle.formula_read.specs.Stack.{reduced}
use Rattle.formula_read.proofs.stack.reduce.Given as goal

abbrev pub invariant-loop-frame : goal.invariant-loop-frame
invariant-loop-frame l = reduced l.precedence l.operand (reverse l.frames) ≡ reduced l.precedence l.fn.operand (reverse l.fn.frames)

abbrev pub decreases-loop-frame : goal.decreases-loop-frame
decreases-loop-frame l = length l.frames
