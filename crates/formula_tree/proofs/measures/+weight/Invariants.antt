use Rattle.std.proofs.Common.{◌≡◌, ◌-◌, ◌^◌, min, take}
use Rattle.formula_tree.specs.Lists.{weight_of_all}
use Rattle.formula_tree.proofs.measures.+weight.Given as goal

abbrev pub invariant-total_weight-loop-e : goal.invariant-total_weight-loop-e
invariant-total_weight-loop-e l = l.total ≡ min (weight_of_all (take l.e-index l.exprs)) (2 ^ 32 - 1)
