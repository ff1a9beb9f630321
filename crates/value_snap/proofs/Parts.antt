-- Tables that are filled from the front, value by value and row by row.
use Rattle.std.proofs.Common.{◌≡◌, ℕ, zero, suc, ◌+◌, ◌<◌, List, [], ◌∷◌, ◌++◌, length, take, drop, get_or, set, refl, ap, sym, ◌∙◌, subst, arith}
use Rattle.std.specs.Prelude.{map, replicate, slice_set, slice_index_or}
use Rattle.std.proofs.lemmas.List.{get_or-set_same, get_or-replicate, length-replicate}
use Rattle.sheet_value.specs.declared.value.Value.{Value}
use Rattle.sheet_value.specs.declared.value.Value.TheVariants as value
use Rattle.sheet_value.specs.Snapshots.{CellValues, cell_in}
use Rattle.sheet_value.specs.Tables.{Table, empty_table, with_value}
use Rattle.value_snap.specs.Parts.{values_in, part_between}

-- ---- the first n of ys replaced by the images of xs
module _ {A B : Type 0} (f : A → B) where
  abbrev pub replaced : ℕ → List A → List B → List B
  replaced n xs ys = map f (take n xs) ++ drop n ys

  replaced-none : (xs : List A) (ys : List B) → ys ≡ replaced 0 xs ys
  replaced-none [] [] = refl
  replaced-none [] (y ∷ ys) = refl
  replaced-none (a ∷ xs) [] = refl
  replaced-none (a ∷ xs) (y ∷ ys) = refl

  replaced-next : (xs : List A) (ys : List B) (n : ℕ) (d : A) → n < length xs → length ys ≡ length xs → set (replaced n xs ys) n (f (get_or xs n d)) ≡ replaced (suc n) xs ys
  replaced-next [] ys n d h l = absurd (omega arith)
  replaced-next (a ∷ xs) [] n d h l = absurd (omega arith)
  replaced-next (a ∷ xs) (y ∷ ys) zero d h l = refl
  replaced-next (a ∷ xs) (y ∷ ys) (suc n) d h l = ap (λ (zs : List B). f a ∷ zs) (replaced-next xs ys n d (omega arith) (omega arith))

  pub replaced-more : (xs : List A) (ys : List B) (n : ℕ) (d : A) → n < length xs → length ys ≡ length xs → set (replaced n xs ys) n (f (get_or xs n d)) ≡ replaced (n + 1) xs ys
  replaced-more xs ys n d h l = let next : suc n ≡ n + 1 = omega arith in replaced-next xs ys n d h l ∙ ap (λ (k : ℕ). replaced k xs ys) next

  pub length-replaced : (xs : List A) (ys : List B) (n : ℕ) → n < length xs → length ys ≡ length xs → length (replaced n xs ys) ≡ length xs
  length-replaced [] ys n h l = absurd (omega arith)
  length-replaced (a ∷ xs) [] n h l = absurd (omega arith)
  length-replaced (a ∷ xs) (y ∷ ys) zero h l = l
  length-replaced (a ∷ xs) (y ∷ ys) (suc n) h l = ap suc (length-replaced xs ys n (omega arith) (omega arith))

  -- the n-th is still the old one
  pub replaced-old : (xs : List A) (ys : List B) (n : ℕ) (d : B) → n < length xs → length ys ≡ length xs → get_or (replaced n xs ys) n d ≡ get_or ys n d
  replaced-old [] ys n d h l = absurd (omega arith)
  replaced-old (a ∷ xs) [] n d h l = absurd (omega arith)
  replaced-old (a ∷ xs) (y ∷ ys) zero d h l = refl
  replaced-old (a ∷ xs) (y ∷ ys) (suc n) d h l = replaced-old xs ys n d (omega arith) (omega arith)

  pub replaced-all : (xs : List A) (ys : List B) → length ys ≡ length xs → replaced (length xs) xs ys ≡ map f xs
  replaced-all [] [] l = refl
  replaced-all [] (y ∷ ys) l = absurd (omega arith)
  replaced-all (a ∷ xs) [] l = absurd (omega arith)
  replaced-all (a ∷ xs) (y ∷ ys) l = ap (λ (zs : List B). f a ∷ zs) (replaced-all xs ys (omega arith))

set-again : {A : Type 0} (xs : List A) (i : ℕ) (a b : A) → set (set xs i a) i b ≡ set xs i b
set-again [] i a b = refl
set-again (x ∷ xs) zero a b = refl
set-again (x ∷ xs) (suc i) a b = ap (λ (ys : List _). x ∷ ys) (set-again xs i a b)

-- ---- a row
-- the table with the first n values of a row put
abbrev pub row_put : CellValues → Table → ℕ → ℕ → List ℕ → ℕ → Table
row_put cells T at row cols n = record T { rows = slice_set T.rows at (replaced (λ col. cell_in cells row col) n cols (slice_index_or T.rows at [])) }

pub row_more : (cells : CellValues) (T grid new : Table) (at row : ℕ) (cols : List ℕ) (n : ℕ) (v : Value) → at < length T.rows → length (slice_index_or T.rows at []) ≡ length cols → n < length cols
    → grid ≡ row_put cells T at row cols n → v ≡ cell_in cells row (slice_index_or cols n 0) → new ≡ with_value grid at n v → new ≡ row_put cells T at row cols (n + 1)
row_more cells T grid new at row cols n v inside width h is value_is put =
    put
    ∙ ap (λ (t : Table). with_value t at n v) is
    ∙ ap (λ (rs : List (List Value)). record T { rows = rs })
    (set-again T.rows at old (set (slice_index_or (slice_set T.rows at old) at []) n v)
    ∙ ap (λ (r : List Value). slice_set T.rows at r)
    (ap (λ (r : List Value). set r n v) (get_or-set_same T.rows at old [] inside)
    ∙ ap (λ (w : Value). set old n w) value_is
    ∙ replaced-more (λ col. cell_in cells row col) cols (slice_index_or T.rows at []) n 0 h width))
  where
    old : List Value
    old = replaced (λ col. cell_in cells row col) n cols (slice_index_or T.rows at [])

-- ---- rows
abbrev no_rows : List ℕ → List ℕ → List (List Value)
no_rows rows cols = replicate (length rows) (replicate (length cols) value.Empty)

-- the table of the rows and columns, its first n rows put
abbrev pub rows_put : CellValues → List ℕ → List ℕ → ℕ → Table
rows_put cells rows cols n = record { size = record { rows = length rows; cols = length cols }; rows = replaced (λ row. values_in cells row cols) n rows (no_rows rows cols) }

module _ (cells : CellValues) (rows cols : List ℕ) where
  height : length (no_rows rows cols) ≡ length rows
  height = length-replicate (length rows) (replicate (length cols) value.Empty)

  pub no_rows_put : (grid : Table) → grid ≡ empty_table (record { rows = length rows; cols = length cols }) → grid ≡ rows_put cells rows cols 0
  no_rows_put grid is =
      is ∙ ap (λ (rs : List (List Value)). record { size = record { rows = length rows; cols = length cols }; rows = rs }) (replaced-none (λ row. values_in cells row cols) rows (no_rows rows cols))

  module _ (n : ℕ) (grid : Table) (h : n < length rows) (is : grid ≡ rows_put cells rows cols n) where
    pub put_height : length grid.rows ≡ grid.size.rows
    put_height = ap (λ (t : Table). length t.rows) is ∙ length-replaced (λ row. values_in cells row cols) rows (no_rows rows cols) n h height ∙ sym (ap (λ (t : Table). t.size.rows) is)

    pub put_width : length (slice_index_or grid.rows n []) ≡ grid.size.cols
    put_width =
        ap (λ (t : Table). length (slice_index_or t.rows n [])) is
        ∙ ap length (replaced-old (λ row. values_in cells row cols) rows (no_rows rows cols) n [] h height ∙ get_or-replicate (length rows) n (replicate (length cols) value.Empty) [] h)
        ∙ length-replicate (length cols) value.Empty
        ∙ sym (ap (λ (t : Table). t.size.cols) is)

    pub rows_more : (new : Table) → new ≡ record grid { rows = slice_set grid.rows n (values_in cells (slice_index_or rows n 0) cols) } → new ≡ rows_put cells rows cols (n + 1)
    rows_more new put =
        put
        ∙ ap (λ (t : Table). record t { rows = slice_set t.rows n (values_in cells (slice_index_or rows n 0) cols) }) is
        ∙ ap (λ (rs : List (List Value)). record { size = record { rows = length rows; cols = length cols }; rows = rs })
        (replaced-more (λ row. values_in cells row cols) rows (no_rows rows cols) n 0 h height)

  pub rows_done : (grid : Table) → grid ≡ rows_put cells rows cols (length rows) → grid ≡ part_between cells rows cols
  rows_done grid is =
      is ∙ ap (λ (rs : List (List Value)). record { size = record { rows = length rows; cols = length cols }; rows = rs }) (replaced-all (λ row. values_in cells row cols) rows (no_rows rows cols) height)
