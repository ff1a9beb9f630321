use Rattle.std.proofs.Common.{◌≡◌, [], ◌++◌, ◌∷◌, ◌-◌, min}
use Rattle.std.specs.List.{range_with_len, flat_map}
use Rattle.sheet_text.specs.Values.{lines_in_row, values_from}
use Rattle.sheet_text.proofs.values.value_lines.Given as goal

abbrev pub invariant-loop-row : goal.invariant-loop-row
invariant-loop-row l = l.out.items ≡ (l.fn.head ++ 10 ∷ []) ++ flat_map (lines_in_row (values_from l.values.top l.values.left l.values.grid.now) (range_with_len l.fn.cols.start (l.fn.cols.end - l.fn.cols.start))) (range_with_len l.fn.rows.start (min l.row l.fn.rows.end - l.fn.rows.start))
