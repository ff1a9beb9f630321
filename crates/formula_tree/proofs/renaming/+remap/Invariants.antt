use Rattle.std.proofs.Common.{◌≡◌, take}
use Rattle.std.proofs.Common.{map as map_list}
use Rattle.formula_tree.specs.Erase.{tree_of}
use Rattle.formula_tree.specs.Remap.{mapped}
use Rattle.formula_tree.proofs.renaming.+remap.Given as goal

abbrev pub invariant-remap_all-loop-i : goal.invariant-remap_all-loop-i
invariant-remap_all-loop-i g l = record {
  unvisited : goal.unvisited-remap_all-loop-i g l;
  done : map_list tree_of (take l.i l.exprs) ≡ map_list (λ e. mapped (g.M.Remap.images l.map) (tree_of e)) (take l.i l.initial.exprs);
}
