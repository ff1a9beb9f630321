use Rattle.std.proofs.Common.{◌≡◌, take}
use Rattle.sheet_grid.specs.Values.{placed_in}
use Rattle.full_calc.proofs.lines.row_marks.Given as goal

abbrev pub invariant-loop-p : goal.invariant-loop-p
invariant-loop-p l = l.marks.items ≡ take l.p (placed_in l.sheet).rows
