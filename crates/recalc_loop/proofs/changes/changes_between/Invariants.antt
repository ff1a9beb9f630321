use Rattle.std.proofs.Common.{◌≡◌}
use Rattle.std.specs.List.{range_with_len, flat_map}
use Rattle.sheet_value.specs.Tables.{value_at}
use Rattle.recalc_loop.specs.Changes.{column_changes}
use Rattle.recalc_loop.proofs.changes.changes_between.Given as goal

abbrev pub invariant-loop-col : goal.invariant-loop-col
invariant-loop-col l = l.changes ≡ flat_map (λ col. column_changes l.rows col (λ row. value_at l.old row col) (λ row. value_at l.new row col)) (range_with_len 0 l.col)
