use Rattle.std.proofs.Common.{◌≡◌, ◌++◌, map, take}
use Rattle.formula_tree.specs.Erase.{tree_of}
use Rattle.formula_tree.proofs.copying.+copy.Given as goal

abbrev pub invariant-copy_all-loop-e : goal.invariant-copy_all-loop-e
invariant-copy_all-loop-e l = map tree_of l.copies ≡ map tree_of (l.initial.copies ++ take l.e-index l.exprs)
