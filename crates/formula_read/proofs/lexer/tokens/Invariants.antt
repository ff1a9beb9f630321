use Rattle.std.proofs.Common.{◌-◌, ◌≤◌, length}
use Rattle.formula_read.proofs.Walk.{CutsOn, FailsOn}
use Rattle.formula_read.proofs.lexer.tokens.Given as goal

abbrev pub invariant-loop-at : goal.invariant-loop-at
invariant-loop-at l = record {
  within : l.at ≤ length l.text;
  near : l.far ≤ length l.text;
  cuts : CutsOn l.text l.at l.tokens;
  fails : FailsOn l.text l.at l.far;
}

abbrev pub decreases-loop-at : goal.decreases-loop-at
decreases-loop-at l = length l.text - l.at
