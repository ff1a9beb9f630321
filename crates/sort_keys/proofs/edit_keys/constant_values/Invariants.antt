use Rattle.std.proofs.Common.{◌≡◌, ℕ, ◌+◌, ◌-◌, min, length}
use Rattle.std.specs.Prelude.{map}
use Rattle.std.specs.List.{range_with_len}
use Rattle.sheet_value.specs.Tables.{value_at}
use Rattle.sheet_ops.specs.Fits.{IsWellFormed}
use Rattle.sheet_ops.specs.Identity.{IdSheet}
use Rattle.sheet_ops.specs.Placed.{placed}
use Rattle.sheet_grid.specs.Values.{placed_in}
use Rattle.full_calc.specs.Values.{value_table}
use Rattle.sort_keys.proofs.edit_keys.constant_values.Given as goal

abbrev pub invariant-loop-row : goal.invariant-loop-row
invariant-loop-row l = record {
  many : length l.found.items ≡ min l.row (l.fn.last + 1) - l.first;
  values : (X : IdSheet) → IsWellFormed X → placed X ≡ placed_in l.sheet →
      l.found.items ≡ map (λ (row : ℕ). value_at (value_table X) row l.col) (range_with_len l.first (min l.row (l.fn.last + 1) - l.first));
}
