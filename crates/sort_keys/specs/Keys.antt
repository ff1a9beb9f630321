-- The keys of an edit.
use Rattle.std.specs.Prelude.{ℕ, ◌≡◌, ◌≤◌, ◌<◌, ◌^◌, List, [], length, map}
use Rattle.std.specs.List.{range_with_len}
use Rattle.sheet_value.specs.declared.value.Value.{Value}
use Rattle.sheet_value.specs.Tables.{value_at}
use Rattle.sheet_ops.specs.declared.edit.Edit.{Edit}
use Rattle.sheet_ops.specs.declared.edit.Edit.TheVariants as edit
use Rattle.sheet_ops.specs.Fits.{IsWellFormed}
use Rattle.sheet_ops.specs.Identity.{IdSheet}
use Rattle.sheet_ops.specs.Placed.{PlacedSheet, placed}
use Rattle.author_ops.specs.Copies.{line_count}
use Rattle.author_ops.specs.Edits.{intended}
use Rattle.full_calc.specs.Values.{value_table}

-- The keys of a sort, one a row: the values of the sheet in the column by which it sorts. No other edit has keys. No proof looks
-- into them but where it says so.
unfoldable pub keys_of : IdSheet → Edit → List Value
keys_of X (edit.Sort first last col down) = map (λ (row : ℕ). value_at (value_table X) row col) (range_with_len first (line_count first last))
keys_of X _ = []

-- keys that serve for those of an edit: what it denotes by them it denotes by its own
abbrev pub AreKeys : PlacedSheet → Edit → List Value → Type 0
AreKeys P e keys = (X : IdSheet) → IsWellFormed X → placed X ≡ P → intended X e keys ≡ intended X e (keys_of X e)

-- what an author sees to beside the keys: texts have fewer than 2^24 bytes, and ranges and rows are in order
abbrev pub IsOrderly : Edit → Type 0
IsOrderly (edit.Set spot entry) = length entry < 2 ^ 24
IsOrderly (edit.Copy from to) = (from.top ≤ from.bottom) × (from.left ≤ from.right)
IsOrderly (edit.Sort first last col down) = first ≤ last
IsOrderly _ = Unit {0}
