use Rattle.std.proofs.Common.{◌≡◌, ℕ, length}
use Rattle.sheet_value.specs.Tables.{kept_at}
use Rattle.sheet_value.proofs.column.grow.Given as goal

abbrev pub invariant-loop-row : goal.invariant-loop-row
invariant-loop-row l = (length l.values.items ≡ l._row) × ((r : ℕ) → kept_at l.values.items r ≡ kept_at l.fn.values.items r)
