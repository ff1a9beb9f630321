use Rattle.std.proofs.Common.{◌≡◌, map, take}
use Rattle.formula_tree.specs.Erase.{tree_of}
use Rattle.generated_run.proofs.contents.+same.Given as goal

abbrev pub invariant-same_lists-loop-i : goal.invariant-same_lists-loop-i
invariant-same_lists-loop-i l = map tree_of (take l.i l.ds) ≡ map tree_of (take l.i l.es)
