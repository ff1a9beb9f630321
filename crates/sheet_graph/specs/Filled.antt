-- The filled cells of a sheet, by visible columns.
use Rattle.std.specs.Prelude.{ℕ, ◌≡◌, ◌<◌, ◌⊎◌, List, [], ◌∷◌, length, slice_index_or}
use Rattle.std.specs.List.{AllByRecursion}
use Rattle.sheet_ops.specs.declared.content.Content.TheVariants as content
use Rattle.sheet_ops.specs.Placed.{PlacedSheet}
use Rattle.cell_walk.specs.Walks.{IsIn}
use Rattle.sheet_graph.specs.Graphs.{content_seen}

abbrev pub rows_in_column : List (List ℕ) → ℕ → List ℕ
rows_in_column lists col = slice_index_or lists col []

abbrev pub IsUp : List ℕ → Type 0
IsUp [] = Unit {0}
IsUp (r ∷ rows) = AllByRecursion (λ q. r < q) rows × IsUp rows

-- Some visible rows above one, from top to bottom, among them those of all filled cells of a column.
pub record HoldsRows (P : PlacedSheet) (col end : ℕ) (rows : List ℕ) : Type 0 where
  pub below : (r : ℕ) → IsIn r rows → r < end
  pub rising : IsUp rows
  pub others : (r : ℕ) → r < end → IsIn r rows ⊎ (content_seen P r col ≡ content.Empty)

-- the same of all columns, for the rows above one and for some cells of that row
pub record AreFilledTo (P : PlacedSheet) (row : ℕ) (cols : List ℕ) (lists : List (List ℕ)) : Type 0 where
  pub below : (c r : ℕ) → IsIn r (rows_in_column lists c) → (r < row) ⊎ ((r ≡ row) × IsIn c cols)
  pub rising : (c : ℕ) → IsUp (rows_in_column lists c)
  pub others : (r c : ℕ) → c < length lists → r < row → IsIn r (rows_in_column lists c) ⊎ (content_seen P r c ≡ content.Empty)
  pub here : (c : ℕ) → IsIn c cols → IsIn row (rows_in_column lists c)
