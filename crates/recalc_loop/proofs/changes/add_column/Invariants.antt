use Rattle.std.proofs.Common.{◌≡◌, ◌++◌}
use Rattle.sheet_value.specs.Tables.{kept_at}
use Rattle.recalc_loop.specs.Changes.{column_changes}
use Rattle.recalc_loop.proofs.changes.add_column.Given as goal

abbrev pub invariant-loop-row : goal.invariant-loop-row
invariant-loop-row l = l.changes ≡ l.initial.changes ++ column_changes l.row l.col (kept_at l.old) (kept_at l.new)
