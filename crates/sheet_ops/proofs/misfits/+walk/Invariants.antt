use Rattle.std.proofs.Common.{◌≡◌, take}
use Rattle.std.proofs.Common.{map as map_list}
use Rattle.std.specs.Prelude.{Ok}
use Rattle.formula_tree.specs.Erase.{tree_of}
use Rattle.formula_tree.specs.Tree.{trees_from}
use Rattle.sheet_ops.specs.Misfits.{walked, trees_tests}
use Rattle.sheet_ops.proofs.misfits.+walk.Given as goal

abbrev pub invariant-walk_args-loop-e : goal.invariant-walk_args-loop-e
invariant-walk_args-loop-e l = Ok l.at ≡ walked l.initial.at (trees_tests l.size (trees_from (map_list tree_of (take l.e-index l.exprs))))
