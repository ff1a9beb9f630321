-- Columns of which one value is changed, and reading them.
use Rattle.std.proofs.Common.{◌≡◌, ℕ, zero, suc, ◌+◌, ◌-◌, ◌<◌, ◌≤◌, ◌≢◌, min, List, [], ◌∷◌, ◌++◌, length, refl, ap, sym, ◌∙◌, subst, arith, inl, inr}
use Rattle.std.specs.Prelude.{◌⊎◌, map, replicate, take, drop, slice_index_or, slice_set, unwrap_or, Option, None, Result, Ok, Err, OnOk}
use Rattle.std.specs.List.{range_with_len, AllByRecursion}
use Rattle.std.proofs.lemmas.List.{get_or_default, map-set, get_or-map, get_or-drop, get_or-take, length-take, length-drop, length-map}
use Rattle.std.proofs.lemmas.List.FromFn.{length-map-range_with_len, get_or-map-range_with_len}
use Rattle.std.proofs.Math.Seq.{map-set_same}
use Rattle.std.proofs.Math.ListN.{get_or-eq_default}
use Rattle.ss_base.specs.declared.types.Size.{Size}
use Rattle.sheet_value.specs.declared.value.Value.{Value}
use Rattle.sheet_value.specs.declared.value.Value.TheVariants as value
use Rattle.sheet_value.specs.Tables.{Table, value_at, with_value, filled, column_of, filled_up, part_of, IsPart, IsNear, kept_at, row_of, table_of, empty_table, IsKept}

-- ---- rows
abbrev rows_of : List (List Value) → ℕ → ℕ → List (List Value)
rows_of columns first count = map (λ row. row_of columns row) (range_with_len first count)

rows_set : (columns others : List (List Value)) (row col : ℕ) (v : Value) → ((r : ℕ) → r ≢ row → row_of others r ≡ row_of columns r) → row_of others row ≡ slice_set (row_of columns row) col v →
    (first count k : ℕ) → first + k ≡ row → rows_of others first count ≡ slice_set (rows_of columns first count) k (slice_set (slice_index_or (rows_of columns first count) k []) col v)
rows_set columns others row col v same here first zero k e = refl
rows_set columns others row col v same here first (suc count) zero e =
    λ i. head i ∷ rows_same (first + 1) count (omega arith) i
  where
    head : row_of others first ≡ slice_set (row_of columns first) col v
    head = let z : row ≡ first = omega arith in subst (λ (r : ℕ). row_of others r ≡ slice_set (row_of columns r) col v) z here

    rows_same : (from n : ℕ) → row < from → rows_of others from n ≡ rows_of columns from n
    rows_same from zero h = refl
    rows_same from (suc n) h = λ i. same from (λ z. absurd (omega (arith, h, z))) i ∷ rows_same (from + 1) n (omega arith) i
rows_set columns others row col v same here first (suc count) (suc k) e =
    λ i. same first (λ z. absurd (omega (arith, e, z))) i ∷ rows_set columns others row col v same here (first + 1) count k (omega arith) i

replicated : (A : Type 0) (f : ℕ → A) (x : A) → ((k : ℕ) → f k ≡ x) → (first count : ℕ) → map f (range_with_len first count) ≡ replicate count x
replicated A f x e first zero = refl
replicated A f x e first (suc count) = λ i. e first i ∷ replicated A f x e (first + 1) count i

pub opened : (size : Size) → empty_table size ≡ table_of size (replicate size.cols [])
opened size = λ i. record { size = size; rows = sym (replicated (List Value) (λ row. row_of (replicate size.cols []) row) (replicate size.cols value.Empty) (λ row. nothing size.cols row) 0 size.rows) i }
  where
    nothing : (count row : ℕ) → row_of (replicate count []) row ≡ replicate count value.Empty
    nothing zero row = refl
    nothing (suc count) row = ap (λ (vs : List Value). value.Empty ∷ vs) (nothing count row)

-- ---- a value
pub side : (a b : ℕ) → (a < b) ⊎ (b ≤ a)
side a zero = inr (omega arith)
side zero (suc b) = inl (omega arith)
side (suc a) (suc b) = by_rest (side a b)
  where
    by_rest : (a < b) ⊎ (b ≤ a) → (suc a < suc b) ⊎ (suc b ≤ suc a)
    by_rest (inl h) = inl (omega (arith, h))
    by_rest (inr h) = inr (omega (arith, h))

filled-kept : (v : Value) → unwrap_or (filled v) value.Empty ≡ v
filled-kept value.Empty = refl
filled-kept (value.Num n) = refl
filled-kept (value.Text t) = refl
filled-kept (value.Err e) = refl

pub kept-or : (o : Option Value) (v : Value) → o ≡ filled v → unwrap_or o value.Empty ≡ v
kept-or o v e = ap (λ (p : Option Value). unwrap_or p value.Empty) e ∙ filled-kept v

-- a table that is kept so
module _ (size : Size) (columns : List (List Value)) (T : Table) (is : table_of size columns ≡ T) (kept : IsKept size columns) (row col : ℕ) where
  pub below_rows : size.rows ≤ row → value_at T row col ≡ value.Empty
  below_rows h =
      ap (λ (t : Table). value_at t row col) (sym is)
      ∙ ap (λ (vs : List Value). slice_index_or vs col value.Empty)
      (get_or-eq_default (rows_of columns 0 size.rows) [] (let l = length-map-range_with_len (λ r. row_of columns r) 0 size.rows in omega (arith, l, h)))

  row_there : row < size.rows → value_at T row col ≡ slice_index_or (row_of columns row) col value.Empty
  row_there h =
      ap (λ (t : Table). value_at t row col) (sym is)
      ∙ ap (λ (vs : List Value). slice_index_or vs col value.Empty)
      (get_or-map-range_with_len (λ r. row_of columns r) 0 size.rows row row [] h (omega arith))

  pub past_cols : size.cols ≤ col → value_at T row col ≡ value.Empty
  past_cols h = by_row (side row size.rows)
    where
      by_row : (row < size.rows) ⊎ (size.rows ≤ row) → value_at T row col ≡ value.Empty
      by_row (inl k) = row_there k ∙ get_or-eq_default (row_of columns row) value.Empty (let l = length-map columns (λ column. kept_at column row) in let w = kept.width in omega (arith, l, w, h))
      by_row (inr k) = below_rows k

  there : row < size.rows → col < size.cols → value_at T row col ≡ kept_at (slice_index_or columns col []) row
  there h k = row_there h ∙ get_or-map (λ column. kept_at column row) columns col [] value.Empty (let w = kept.width in omega (arith, w, k))

  pub none_below : size.rows ≤ row → None ≡ filled (value_at T row col)
  none_below h = ap filled (sym (below_rows h))

  pub none_past : size.cols ≤ col → None ≡ filled (value_at T row col)
  none_past h = ap filled (sym (past_cols h))

-- the values of a column
module _ (size : Size) (columns : List (List Value)) (T : Table) (is : table_of size columns ≡ T) (kept : IsKept size columns) (col : ℕ) (inside : col < size.cols) (vs d : List Value) (is_this : vs ≡ slice_index_or columns col d) where
  kept_there : vs ≡ slice_index_or columns col []
  kept_there = is_this ∙ get_or_default columns col d [] (let w = kept.width in omega (arith, w, inside))

  pub at_column : (row : ℕ) → row < size.rows → kept_at vs row ≡ value_at T row col
  at_column row h = ap (λ (c : List Value). kept_at c row) kept_there ∙ sym (there size columns T is kept row col h inside)

  pub in_column : (count : ℕ) → count ≡ min (length vs) size.rows → (row : ℕ) → kept_at (take count vs) row ≡ value_at T row col
  in_column count e row = by_row (side row size.rows)
    where
      cut : length (take count vs) ≤ count
      cut = let l = length-take count vs in omega (arith, l)

      here : (row < count) ⊎ (count ≤ row) → row < size.rows → kept_at (take count vs) row ≡ kept_at vs row
      here (inl k) h = get_or-take count vs row value.Empty k
      here (inr k) h = get_or-eq_default (take count vs) value.Empty (let l = cut in omega (arith, l, k)) ∙ sym (get_or-eq_default vs value.Empty (omega (arith, e, k, h)))

      by_row : (row < size.rows) ⊎ (size.rows ≤ row) → kept_at (take count vs) row ≡ value_at T row col
      by_row (inl h) = here (side row count) h ∙ at_column row h
      by_row (inr h) = get_or-eq_default (take count vs) value.Empty (let l = cut in omega (arith, l, e, h)) ∙ sym (below_rows size columns T is kept row col h)

-- a value is put
module _ (size : Size) (columns : List (List Value)) (T : Table) (is : table_of size columns ≡ T) (kept : IsKept size columns) (row col : ℕ) (old d new : List Value) (is_this : old ≡ slice_index_or columns col d) (inside : col < T.size.cols) where
  this : old ≡ slice_index_or columns col []
  this = is_this ∙ get_or_default columns col d [] (let w = kept.width in let e = ap (λ (t : Table). t.size.cols) is in omega (arith, w, e, inside))

  unmoved : (r : ℕ) → kept_at new r ≡ kept_at old r → row_of (slice_set columns col new) r ≡ row_of columns r
  unmoved r e = map-set_same (λ column. kept_at column r) columns col new [] (e ∙ ap (λ (c : List Value). kept_at c r) this)

  pub put : (v : Value) → kept_at new row ≡ v → ((r : ℕ) → r ≢ row → kept_at new r ≡ kept_at old r) → table_of size (slice_set columns col new) ≡ with_value T row col v
  put v e others =
      (λ i. record { size = size; rows = rows i }) ∙ ap (λ (t : Table). with_value t row col v) is
    where
      here : row_of (slice_set columns col new) row ≡ slice_set (row_of columns row) col v
      here = map-set (λ column. kept_at column row) columns col new ∙ ap (λ (w : Value). slice_set (row_of columns row) col w) e

      rows : rows_of (slice_set columns col new) 0 size.rows ≡ slice_set (rows_of columns 0 size.rows) row (slice_set (slice_index_or (rows_of columns 0 size.rows) row []) col v)
      rows = rows_set columns (slice_set columns col new) row col v (λ r k. unmoved r (others r k)) here 0 size.rows row (omega arith)

  pub put_nothing : ((r : ℕ) → kept_at new r ≡ kept_at old r) → table_of size (slice_set columns col new) ≡ T
  put_nothing same = (λ i. record { size = size; rows = rows 0 size.rows i }) ∙ is
    where
      rows : (first count : ℕ) → rows_of (slice_set columns col new) first count ≡ rows_of columns first count
      rows first zero = refl
      rows first (suc count) = λ i. unmoved first (same first) i ∷ rows (first + 1) count i

pub both : {A B P Q R : Type 0} (r : Result A B) → (P → Q → R) → OnOk r P → OnOk r Q → OnOk r R
both (Ok x) f p q = f p q
both (Err e) f p q = tt

-- one more empty value
pub kept_at-more : (vs : List Value) (r : ℕ) → kept_at (vs ++ value.Empty ∷ []) r ≡ kept_at vs r
kept_at-more [] zero = refl
kept_at-more [] (suc r) = refl
kept_at-more (v ∷ vs) zero = refl
kept_at-more (v ∷ vs) (suc r) = kept_at-more vs r

-- ---- parts
pub is_part : (T : Table) (top left : ℕ) (size : Size) → IsNear top left size → IsPart (part_of T top left size)
is_part T top left size near = record {
  height = length-map-range_with_len (λ row. map (λ col. value_at T row col) (range_with_len left size.cols)) top size.rows;
  widths = widths top size.rows;
  some_rows = near.some_rows;
  some_cols = near.some_cols;
  few_rows = near.few_rows;
  few_cols = near.few_cols;
}
  where
    widths : (first count : ℕ) → AllByRecursion (λ row. length row ≡ size.cols) (map (λ row. map (λ col. value_at T row col) (range_with_len left size.cols)) (range_with_len first count))
    widths first zero = tt
    widths first (suc count) = (length-map-range_with_len (λ col. value_at T first col) left size.cols, widths (first + 1) count)

pub in_part : (T : Table) (top left : ℕ) (size : Size) (row col : ℕ) → row < size.rows → col < size.cols → value_at (part_of T top left size) row col ≡ value_at T (top + row) (left + col)
in_part T top left size row col h k =
    ap (λ (vs : List Value). slice_index_or vs col value.Empty)
    (get_or-map-range_with_len (λ r. map (λ c. value_at T r c) (range_with_len left size.cols)) top size.rows row (top + row) [] h refl)
    ∙ get_or-map-range_with_len (λ c. value_at T (top + row) c) left size.cols col (left + col) value.Empty k refl

-- values of which the last are empty
ending : (f : ℕ → Value) (vs : List Value) (first count some : ℕ) → ((i : ℕ) → f (first + i) ≡ kept_at vs i) → some ≡ min (length vs) count →
    map f (range_with_len first count) ≡ filled_up (take some vs) count
ending f vs first zero some e s = let z : some ≡ 0 = omega (arith, s) in rw z refl
ending f [] first (suc count) some e s =
    let z : some ≡ 0 = omega (arith, s) in
    rw z ((λ i. head i ∷ (ending f [] (first + 1) count 0 next (omega arith) ∙ less) i) ∙ more)
  where
    head : f first ≡ value.Empty
    head = ap f (let z : first ≡ first + 0 = omega arith in z) ∙ e 0

    next : (i : ℕ) → f (first + 1 + i) ≡ value.Empty
    next i = ap f (let z : first + 1 + i ≡ first + suc i = omega arith in z) ∙ e (suc i)

    less : replicate (count - 0) value.Empty ≡ replicate count value.Empty
    less = ap (λ (n : ℕ). replicate n value.Empty) (let z : count - 0 ≡ count = omega arith in z)

    more : value.Empty ∷ replicate count value.Empty ≡ replicate (suc count - 0) value.Empty
    more = ap (λ (n : ℕ). replicate n value.Empty) (let z : suc count ≡ suc count - 0 = omega arith in z)
ending f (v ∷ vs) first (suc count) zero e s = absurd (omega (arith, s))
ending f (v ∷ vs) first (suc count) (suc some) e s =
    λ i. head i ∷ (ending f vs (first + 1) count some next (omega (arith, s)) ∙ less) i
  where
    head : f first ≡ v
    head = ap f (let z : first ≡ first + 0 = omega arith in z) ∙ e 0

    next : (i : ℕ) → f (first + 1 + i) ≡ kept_at vs i
    next i = ap f (let z : first + 1 + i ≡ first + suc i = omega arith in z) ∙ e (suc i)

    less : filled_up (take some vs) count ≡ take some vs ++ replicate (suc count - suc (length (take some vs))) value.Empty
    less = ap (λ (n : ℕ). take some vs ++ replicate n value.Empty) (let z : count - length (take some vs) ≡ suc count - suc (length (take some vs)) = omega arith in z)

-- a column of a part, where the column of the whole is kept so far
pub column_in_part : (T : Table) (top left : ℕ) (size : Size) (col : ℕ) (vs : List Value) (from bottom : ℕ) → col < size.cols → ((row : ℕ) → kept_at vs row ≡ value_at T row (left + col)) →
    bottom ≡ min (length vs) (top + size.rows) → from ≡ min bottom top → column_of (part_of T top left size).rows col ≡ filled_up (take (bottom - from) (drop from vs)) size.rows
column_in_part T top left size col vs from bottom k e b f = along top size.rows ∙ ending (λ row. value_at T row (left + col)) (drop from vs) top size.rows (bottom - from) at enough
  where
    along : (first count : ℕ) → map (λ row. slice_index_or row col value.Empty) (map (λ row. map (λ c. value_at T row c) (range_with_len left size.cols)) (range_with_len first count)) ≡ map (λ row. value_at T row (left + col)) (range_with_len first count)
    along first zero = refl
    along first (suc count) = λ i. get_or-map-range_with_len (λ c. value_at T first c) left size.cols col (left + col) value.Empty k refl i ∷ along (first + 1) count i

    by_end : (i : ℕ) → (top < length vs) ⊎ (length vs ≤ top) → kept_at vs (top + i) ≡ kept_at vs (from + i)
    by_end i (inl h) = ap (λ (n : ℕ). kept_at vs (n + i)) (let z : top ≡ from = omega (arith, b, f, h) in z)
    by_end i (inr h) = get_or-eq_default vs value.Empty (omega (arith, h)) ∙ sym (get_or-eq_default vs value.Empty (omega (arith, b, f, h)))

    at : (i : ℕ) → value_at T (top + i) (left + col) ≡ kept_at (drop from vs) i
    at i = sym (e (top + i)) ∙ (by_end i (side top (length vs)) ∙ sym (get_or-drop from vs i value.Empty))

    enough : bottom - from ≡ min (length (drop from vs)) size.rows
    enough = let l = length-drop from vs in omega (arith, l, b, f)
