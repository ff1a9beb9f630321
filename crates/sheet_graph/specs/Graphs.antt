-- The graph of a sheet: its formula cells under numbers.
use Rattle.std.specs.Prelude.{ℕ, ◌≡◌, ◌<◌, ◌≤◌, ◌⊎◌, ◌&&◌, zero, suc, nat_eq, Bool, true, false, if◌then◌else◌, List, [], ◌∷◌, length, Option, None, Some, slice_get}
use Rattle.std.specs.List.{flat_map}
use Rattle.marked_lines.specs.Marks.{visible_places}
use Rattle.sheet_ops.specs.declared.content.Content.{Content}
use Rattle.sheet_ops.specs.declared.content.Content.TheVariants as content
use Rattle.sheet_ops.specs.Placed.{PlacedSheet, cell_at}
use Rattle.cell_walk.specs.declared.walking.Progress.{Progress}
use Rattle.cell_walk.specs.Walks.{IsIn, AreDistinct}
use Rattle.sheet_graph.specs.declared.areas.Area.{Area}
use Rattle.sheet_graph.specs.declared.columns.FormulaCell.{FormulaCell}
use Rattle.sheet_graph.specs.declared.graph.Node.{Node}
use Rattle.sheet_graph.specs.Areas.{in_area, areas_in}
use Rattle.sheet_graph.specs.Columns.{number_in, listed_in, left_in_areas}

-- the areas of the formula cell with a number
abbrev pub areas_of : List Node → ℕ → List Area
areas_of [] cell = []
areas_of (x ∷ nodes) zero = x.areas.items
areas_of (x ∷ nodes) (suc cell) = areas_of nodes cell

-- the formula cells that one mentions
abbrev pub mentions_in : List Node → List (List FormulaCell) → ℕ → List ℕ
mentions_in nodes columns cell = flat_map (in_area (number_in columns)) (areas_of nodes cell)

-- the same, each area column by column; and those that are left from a place on
abbrev pub mentions_listed : List Node → List (List FormulaCell) → ℕ → List ℕ
mentions_listed nodes columns cell = flat_map (listed_in columns) (areas_of nodes cell)

abbrev pub mentions_left : List Node → List (List FormulaCell) → ℕ → Progress → List ℕ
mentions_left nodes columns cell place = left_in_areas columns (areas_of nodes cell) place.reference place.col

pub record HaveSameMembers (xs ys : List ℕ) : Type 0 where
  pub there : (n : ℕ) → IsIn n xs → IsIn n ys
  pub back : (n : ℕ) → IsIn n ys → IsIn n xs

-- with a number for one cell
abbrev pub number_set : (ℕ → ℕ → Option ℕ) → ℕ → ℕ → ℕ → ℕ → ℕ → Option ℕ
number_set number row col n r c = if nat_eq row r && nat_eq col c then Some n else number r c

abbrev pub is_formula_content : Content → Bool
is_formula_content content.Empty = false
is_formula_content (content.Num z) = false
is_formula_content (content.Text t) = false
is_formula_content (content.Formula t) = true

-- what the cell at a visible index holds, and nothing where there is none
abbrev pub content_at : PlacedSheet → Option ℕ → Option ℕ → Content
content_at P None q = content.Empty
content_at P (Some p) None = content.Empty
content_at P (Some p) (Some q) = cell_at P p q

abbrev pub content_seen : PlacedSheet → ℕ → ℕ → Content
content_seen P row col = content_at P (slice_get (visible_places P.rows) row) (slice_get (visible_places P.cols) col)

-- Some visible columns below one, each once, among them those of all filled cells of a row.
pub record HoldsFilled (P : PlacedSheet) (row end : ℕ) (cols : List ℕ) : Type 0 where
  pub below : (c : ℕ) → IsIn c cols → c < end
  pub distinct : AreDistinct cols
  pub few : length cols ≤ end
  pub others : (c : ℕ) → c < end → IsIn c cols ⊎ (content_seen P row c ≡ content.Empty)

-- a node is that of a formula cell
pub record IsNode (P : PlacedSheet) (x : Node) : Type 0 where
  pub formula : content_seen P x.row x.col ≡ content.Formula x.formula
  pub areas : x.areas.items ≡ areas_in P.rows P.cols x.formula

abbrev pub IsFoundAt : PlacedSheet → ℕ → ℕ → Option Node → Type 0
IsFoundAt P row col None = is_formula_content (content_seen P row col) ≡ false
IsFoundAt P row col (Some x) = (x.row ≡ row) × (x.col ≡ col) × IsNode P x

-- The graph of some cells: each of them that is a formula cell has a number, and each number its node.
pub record IsGraphOf (P : PlacedSheet) (cells : ℕ → ℕ → Type 0) (nodes : List Node) (number : ℕ → ℕ → Option ℕ) : Type 0 where
  pub node : (n : ℕ) (x : Node) → slice_get nodes n ≡ Some x → (number x.row x.col ≡ Some n) × IsNode P x
  pub back : (r c n : ℕ) → number r c ≡ Some n → (x : Node) × (slice_get nodes n ≡ Some x) × (x.row ≡ r) × (x.col ≡ c)
  pub none : (r c : ℕ) → cells r c → number r c ≡ None → is_formula_content (content_seen P r c) ≡ false
  pub only : (r c n : ℕ) → number r c ≡ Some n → cells r c

-- the graph of all
abbrev pub IsGraph : PlacedSheet → List Node → (ℕ → ℕ → Option ℕ) → Type 0
IsGraph P nodes number = IsGraphOf P (λ r c. Unit {0}) nodes number

-- the graph of the columns before one, and of some cells of that column
abbrev pub IsGraphTo : PlacedSheet → ℕ → List ℕ → List Node → (ℕ → ℕ → Option ℕ) → Type 0
IsGraphTo P col rows nodes number = IsGraphOf P (λ r c. (c < col) ⊎ ((c ≡ col) × IsIn r rows)) nodes number
