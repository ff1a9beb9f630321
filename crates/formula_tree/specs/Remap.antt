-- References replaced by their images, and by a lost one where there is none.
use Rattle.std.specs.Prelude.{ℕ, ◌≡◌, Option, Some, None}
use Rattle.std.specs.Option.{option_and_then, option_map}
use Rattle.ss_base.specs.declared.types.Spot.{Spot}
use Rattle.ss_base.specs.declared.types.Span.{Span}
use Rattle.ss_base.specs.declared.types.CalcErr.TheVariants.{Lost}
use Rattle.cell_addr.specs.Cells.{range_between}
use Rattle.formula_tree.specs.Tree.{Tree, Trees, num, text, fault, cell, range, pre, bin, call, none, more}
use Rattle.formula_tree.specs.WellFormed.{IsPlace}

abbrev pub cell_or_lost : {C R : Type 0} → Option C → Tree C R
cell_or_lost None = fault Lost
cell_or_lost (Some c) = cell c

abbrev pub range_or_lost : {C R : Type 0} → Option R → Tree C R
range_or_lost None = fault Lost
range_or_lost (Some r) = range r

module _ {C R D S : Type 0} (f : C → Option D) (g : R → Option S) where
  abbrev mutual
    pub remap_tree : Tree C R → Tree D S
    remap_tree (num n) = num n
    remap_tree (text t) = text t
    remap_tree (fault e) = fault e
    remap_tree (cell c) = cell_or_lost (f c)
    remap_tree (range r) = range_or_lost (g r)
    remap_tree (pre op t) = pre op (remap_tree t)
    remap_tree (bin op s t) = bin op (remap_tree s) (remap_tree t)
    remap_tree (call fun ts) = call fun (remap_trees ts)

    pub remap_trees : Trees C R → Trees D S
    remap_trees none = none
    remap_trees (more t ts) = more (remap_tree t) (remap_trees ts)

-- something holds of each reference to a cell, and something of each one to a range
module _ {C R : Type 0} (P : C → Type 0) (Q : R → Type 0) where
  abbrev mutual
    pub EachReference : Tree C R → Type 0
    EachReference (num n) = Unit {0}
    EachReference (text t) = Unit {0}
    EachReference (fault e) = Unit {0}
    EachReference (cell c) = P c
    EachReference (range r) = Q r
    EachReference (pre op t) = EachReference t
    EachReference (bin op s t) = EachReference s × EachReference t
    EachReference (call fun ts) = EachReferences ts

    pub EachReferences : Trees C R → Type 0
    EachReferences none = Unit {0}
    EachReferences (more t ts) = EachReference t × EachReferences ts

-- What a map makes of a row, of a column, and of the first and last row, or column, of a range.
pub record Images : Type 0 where
  pub rec_row : ℕ → Option ℕ
  pub rec_col : ℕ → Option ℕ
  pub span_rows : ℕ → ℕ → Option (ℕ × ℕ)
  pub span_cols : ℕ → ℕ → Option (ℕ × ℕ)

-- a cell by the image of its row and that of its column
abbrev pub spot_at : Spot → ℕ → ℕ → Spot
spot_at s row col = record { row = row; col = col; abs_row = s.abs_row; abs_col = s.abs_col }

abbrev pub remap_spot : Images → Spot → Option Spot
remap_spot m s = option_and_then (λ row. option_map (λ col. spot_at s row col) (m.rec_col s.col)) (m.rec_row s.row)

-- the first and the last corner of a range by the images of its rows and columns
abbrev pub first_corner : Span → ℕ × ℕ → ℕ × ℕ → Spot
first_corner s rows cols = record { row = rows.0; col = cols.0; abs_row = s.abs_top; abs_col = s.abs_left }

abbrev pub last_corner : Span → ℕ × ℕ → ℕ × ℕ → Spot
last_corner s rows cols = record { row = rows.1; col = cols.1; abs_row = s.abs_bottom; abs_col = s.abs_right }

-- a range by the images of its rows and columns, put in order
abbrev pub span_at : Span → ℕ × ℕ → ℕ × ℕ → Span
span_at s rows cols = range_between (first_corner s rows cols) (last_corner s rows cols)

abbrev pub remap_span : Images → Span → Option Span
remap_span m s = option_and_then (λ rows. option_map (λ cols. span_at s rows cols) (m.span_cols s.left s.right)) (m.span_rows s.top s.bottom)

-- Where the map has an image, it is one that an address can spell.
abbrev pub IsSpotMapped : Images → Spot → Type 0
IsSpotMapped m s = (row col : ℕ) → m.rec_row s.row ≡ Some row → m.rec_col s.col ≡ Some col → IsPlace row col

abbrev pub IsSpanMapped : Images → Span → Type 0
IsSpanMapped m s = (rows cols : ℕ × ℕ) → m.span_rows s.top s.bottom ≡ Some rows → m.span_cols s.left s.right ≡ Some cols →
    IsPlace rows.0 cols.0 × IsPlace rows.1 cols.1

abbrev pub IsMapped : Images → Tree Spot Span → Type 0
IsMapped m t = EachReference (IsSpotMapped m) (IsSpanMapped m) t

abbrev pub mapped : Images → Tree Spot Span → Tree Spot Span
mapped m t = remap_tree (remap_spot m) (remap_span m) t
