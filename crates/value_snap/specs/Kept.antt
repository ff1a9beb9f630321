-- How cells are kept: a map of std, whose keys are row and column.
use Rattle.std.specs.Prelude.{ℕ}
use Rattle.std.specs.BTreeMap.{BTreeMap}
use Rattle.std.specs.FinMap as map
use Rattle.sheet_value.specs.declared.value.Value.{Value}
use Rattle.sheet_value.specs.Snapshots.{CellValues}

abbrev pub cells_of : BTreeMap (ℕ × ℕ) Value → CellValues
cells_of m = map.from_entries m.entries
