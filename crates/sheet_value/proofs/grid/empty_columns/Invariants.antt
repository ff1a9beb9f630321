use Rattle.std.proofs.Common.{◌≡◌, [], replicate}
use Rattle.sheet_value.proofs.grid.empty_columns.Given as goal

abbrev pub invariant-loop-i : goal.invariant-loop-i
invariant-loop-i l = l.columns.items ≡ replicate l._i []
