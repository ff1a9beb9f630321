use Rattle.std.proofs.Common.{◌≡◌, ◌+◌, drop}
use Rattle.formula_tree.specs.Lexing.{space_count}
use Rattle.formula_read.proofs.lexer.spaces.Given as goal

abbrev pub invariant-loop-i : goal.invariant-loop-i
invariant-loop-i l = space_count l.text ≡ l.i + space_count (drop l.i l.text)
