use Rattle.std.proofs.Common.{◌≡◌, ◌+◌, Some, drop}
use Rattle.formula_read.specs.declared.partial.Partial.TheVariants.{Fresh}
use Rattle.formula_read.specs.Longest.{longest, fronts, behind}
use Rattle.formula_read.proofs.lexer.scan.Given as goal

abbrev pub invariant-loop-i : goal.invariant-loop-i
invariant-loop-i l = record {
  found : longest (Some Fresh) l.text ≡ behind l.i (longest (Some l.state) (drop l.i l.text)) l.found;
  reach : fronts (Some Fresh) l.text ≡ l.i + fronts (Some l.state) (drop l.i l.text);
}
