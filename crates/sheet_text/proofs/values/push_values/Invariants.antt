use Rattle.std.proofs.Common.{◌≡◌, ◌++◌, ◌-◌, min}
use Rattle.std.specs.List.{range_with_len}
use Rattle.sheet_text.specs.Values.{lines_in_row, values_from}
use Rattle.sheet_text.proofs.values.push_values.Given as goal

abbrev pub invariant-loop-col : goal.invariant-loop-col
invariant-loop-col l = l.out.items ≡ l.initial.out.items ++ lines_in_row (values_from l.values.top l.values.left l.values.grid.now) (range_with_len l.first (min l.col l.end - l.first)) l.row
