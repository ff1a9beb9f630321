use Rattle.std.proofs.Common.{◌≡◌, take}
use Rattle.std.proofs.Common.{map as map_list}
use Rattle.formula_tree.specs.Erase.{tree_of}
use Rattle.formula_tree.specs.Remap.{remap_tree}
use Rattle.sheet_grid.specs.Values.{placed_in}
use Rattle.author_ops.specs.Placed.{cell_shifted, range_shifted}
use Rattle.author_ops.proofs.copies.+shift.Given as goal

abbrev pub invariant-shift_all-loop-i : goal.invariant-shift_all-loop-i
invariant-shift_all-loop-i l = record {
  unvisited : goal.unvisited-shift_all-loop-i l;
  done : map_list tree_of (take l.i l.exprs)
      ≡ map_list (λ e. remap_tree (cell_shifted (placed_in l.copying.sheet.now) l.copying.rows l.copying.cols) (range_shifted (placed_in l.copying.sheet.now) l.copying.rows l.copying.cols) (tree_of e)) (take l.i l.initial.exprs);
}
