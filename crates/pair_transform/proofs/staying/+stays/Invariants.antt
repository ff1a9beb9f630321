use Rattle.std.proofs.Common.{◌≡◌, map, take}
use Rattle.formula_tree.specs.Erase.{tree_of}
use Rattle.pair_transform.specs.Staying.{tree_gone}
use Rattle.pair_transform.proofs.staying.+stays.Given as goal

abbrev pub invariant-trees_stay-loop-i : goal.invariant-trees_stay-loop-i
invariant-trees_stay-loop-i l = map (λ e. tree_gone l.staying (tree_of e)) (take l.i l.exprs) ≡ map tree_of (take l.i l.exprs)
