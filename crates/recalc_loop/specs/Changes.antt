-- What has to be published for the values of one sheet to become those of another, both by visible indexes.
use Rattle.std.specs.Prelude.{ℕ, max, ◌||◌, if◌then◌else◌, Bool, true, false, List, [], ◌∷◌}
use Rattle.std.specs.List.{range_with_len, flat_map}
use Rattle.sheet_value.specs.declared.batch.Batch.{Batch}
use Rattle.sheet_value.specs.declared.batch.Change.{Change}
use Rattle.sheet_value.specs.declared.value.Value.{Value}
use Rattle.sheet_value.specs.declared.value.Value.TheVariants as value
use Rattle.sheet_value.specs.Tables.{Table, value_at}

abbrev pub is_filled : Value → Bool
is_filled value.Empty = false
is_filled (value.Num n) = true
is_filled (value.Text t) = true
is_filled (value.Err e) = true

-- the new value of a cell, unless it is empty and was so before
abbrev pub cell_changes : ℕ → ℕ → Value → Value → List Change
cell_changes row col old new = if is_filled old || is_filled new then record { row = row; col = col; value = new } ∷ [] else []

-- those of so many rows of a column, from the top down
abbrev pub column_changes : ℕ → ℕ → (ℕ → Value) → (ℕ → Value) → List Change
column_changes rows col old new = flat_map (λ row. cell_changes row col (old row) (new row)) (range_with_len 0 rows)

-- those of all cells, column by column
abbrev pub changes_between : Table → Table → List Change
changes_between old new =
    flat_map (λ col. column_changes (max old.size.rows new.size.rows) col (λ row. value_at old row col) (λ row. value_at new row col))
    (range_with_len 0 (max old.size.cols new.size.cols))

-- the batch with these changes, in which lines have their visible indexes as numbers
abbrev pub batch_between : ℕ → Table → Table → Batch
batch_between upto old new = record {
  upto = upto;
  row_order = range_with_len 0 new.size.rows;
  col_order = range_with_len 0 new.size.cols;
  changes = changes_between old new;
}
