use Rattle.std.proofs.Common.{◌≡◌, ℕ, ◌+◌, ◌-◌, min}
use Rattle.std.specs.Prelude.{map}
use Rattle.std.specs.List.{range_with_len}
use Rattle.sheet_value.specs.Tables.{value_at}
use Rattle.sort_keys.proofs.edit_keys.column_values.Given as goal

abbrev pub invariant-loop-row : goal.invariant-loop-row
invariant-loop-row l = l.found.items ≡ map (λ (row : ℕ). value_at l.grid row l.col) (range_with_len l.first (min l.row (l.fn.last + 1) - l.first))
