use Rattle.std.proofs.Common.{◌≡◌, ◌-◌, ◌^◌, min, take}
use Rattle.formula_tree.specs.Lists.{nesting_of_all}
use Rattle.formula_tree.proofs.measures.+nesting.Given as goal

abbrev pub invariant-greatest_nesting-loop-e : goal.invariant-greatest_nesting-loop-e
invariant-greatest_nesting-loop-e l = l.most ≡ min (nesting_of_all (take l.e-index l.exprs)) (2 ^ 32 - 1)
