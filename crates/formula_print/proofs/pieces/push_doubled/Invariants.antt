use Rattle.std.proofs.Common.{◌≡◌, ◌++◌, take}
use Rattle.formula_tree.specs.Tokens.{doubled}
use Rattle.formula_print.proofs.pieces.push_doubled.Given as goal

abbrev pub invariant-loop-b : goal.invariant-loop-b
invariant-loop-b l = l.out.items ≡ l.initial.out.items ++ doubled (take l.b-index l.text)
