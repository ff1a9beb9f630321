-- Tables with one value put in.
use Rattle.std.proofs.Common.{◌≡◌, ◌≢◌, ℕ, zero, suc, ◌<◌, List, [], ◌∷◌, length, refl, ap, sym, ◌∙◌, arith, inl, inr, get_or-set_same, get_or-set_other}
use Rattle.std.specs.Prelude.{◌⊎◌, slice_index_or, slice_set, replicate}
use Rattle.std.specs.List.{AllByRecursion}
use Rattle.std.proofs.lemmas.List.{length-set, same_lists}
use Rattle.ss_base.specs.declared.types.Size.{Size}
use Rattle.sheet_value.specs.declared.value.Value.{Value}
use Rattle.sheet_value.specs.declared.value.Value.TheVariants as value
use Rattle.sheet_value.specs.Tables.{Table, empty_table, value_at, with_value}
use Rattle.cell_walk.proofs.Turns.{same_or_not}
use Rattle.full_calc.specs.Shown.{HasItsSize}

-- ---- rows of one length
abbrev HasLength : ℕ → List Value → Type 0
HasLength n row = length row ≡ n

at_all : (n : ℕ) (rows : List (List Value)) (i : ℕ) → AllByRecursion (HasLength n) rows → i < length rows → length (slice_index_or rows i []) ≡ n
at_all n [] i h l = absurd (omega arith)
at_all n (row ∷ rows) zero h l = h.0
at_all n (row ∷ rows) (suc i) h l = at_all n rows i h.1 (omega arith)

set_all : (n : ℕ) (rows : List (List Value)) (i : ℕ) (row : List Value) → AllByRecursion (HasLength n) rows → length row ≡ n → AllByRecursion (HasLength n) (slice_set rows i row)
set_all n [] i row h e = tt
set_all n (x ∷ rows) zero row h e = (e, h.1)
set_all n (x ∷ rows) (suc i) row h e = (h.0, set_all n rows i row h.1 e)

same_all : (n m : ℕ) (row : List Value) → length row ≡ n → AllByRecursion (HasLength n) (replicate m row)
same_all n zero row e = tt
same_all n (suc m) row e = (e, same_all n m row e)

length-same : {A : Type 0} (m : ℕ) (x : A) → length (replicate m x) ≡ m
length-same zero x = refl
length-same (suc m) x = ap suc (length-same m x)

-- ---- an empty table
pub shaped_empty : (s : Size) → HasItsSize (empty_table s)
shaped_empty s = (length-same s.rows (replicate s.cols value.Empty), same_all s.cols s.rows (replicate s.cols value.Empty) (length-same s.cols value.Empty))

nothing_in : (n c : ℕ) → slice_index_or (replicate n value.Empty) c value.Empty ≡ value.Empty
nothing_in zero c = refl
nothing_in (suc n) zero = refl
nothing_in (suc n) (suc c) = nothing_in n c

row_of_nothing : (m n r c : ℕ) → slice_index_or (slice_index_or (replicate m (replicate n value.Empty)) r []) c value.Empty ≡ value.Empty
row_of_nothing zero n r c = refl
row_of_nothing (suc m) n zero c = nothing_in n c
row_of_nothing (suc m) n (suc r) c = row_of_nothing m n r c

pub empty_value : (s : Size) (r c : ℕ) → value_at (empty_table s) r c ≡ value.Empty
empty_value s r c = row_of_nothing s.rows s.cols r c

-- ---- one value put in
module _ (T : Table) (row col : ℕ) (v : Value) (shape : HasItsSize T) (h : row < T.size.rows) (k : col < T.size.cols) where
  abbrev after : List Value
  after = slice_set (slice_index_or T.rows row []) col v

  row_there : row < length T.rows
  row_there = let e = shape.0 in omega (arith, e, h)

  col_there : col < length (slice_index_or T.rows row [])
  col_there = let e = at_all T.size.cols T.rows row shape.1 row_there in omega (arith, e, k)

  pub shaped_put : HasItsSize (with_value T row col v)
  shaped_put = (
    length-set T.rows row after ∙ shape.0,
    set_all T.size.cols T.rows row after shape.1 (length-set (slice_index_or T.rows row []) col v ∙ at_all T.size.cols T.rows row shape.1 row_there),
  )

  pub value_put : value_at (with_value T row col v) row col ≡ v
  value_put =
      ap (λ (xs : List Value). slice_index_or xs col value.Empty) (get_or-set_same T.rows row after [] row_there)
      ∙ get_or-set_same (slice_index_or T.rows row []) col v value.Empty col_there

  pub value_other : (r c : ℕ) → (r ≢ row) ⊎ (c ≢ col) → value_at (with_value T row col v) r c ≡ value_at T r c
  value_other r c (inl n) = ap (λ (xs : List Value). slice_index_or xs c value.Empty) (get_or-set_other T.rows row r after [] n)
  value_other r c (inr n) = by_row (same_or_not r row)
    where
      by_row : ((r ≡ row) ⊎ (r ≢ row)) → value_at (with_value T row col v) r c ≡ value_at T r c
      by_row (inr m) = ap (λ (xs : List Value). slice_index_or xs c value.Empty) (get_or-set_other T.rows row r after [] m)
      by_row (inl e) =
          ap (λ q. slice_index_or (slice_index_or (slice_set T.rows row after) q []) c value.Empty) e
          ∙ (ap (λ (xs : List Value). slice_index_or xs c value.Empty) (get_or-set_same T.rows row after [] row_there)
          ∙ (get_or-set_other (slice_index_or T.rows row []) col c v value.Empty n
          ∙ ap (λ q. slice_index_or (slice_index_or T.rows q []) c value.Empty) (sym e)))

  -- at each place there is the value put in, or what was there
  pub put_or_not : (r c : ℕ) → ((r ≡ row) × (c ≡ col)) ⊎ ((r ≢ row) ⊎ (c ≢ col))
  put_or_not r c = by_both (same_or_not r row) (same_or_not c col)
    where
      by_both : ((r ≡ row) ⊎ (r ≢ row)) → ((c ≡ col) ⊎ (c ≢ col)) → ((r ≡ row) × (c ≡ col)) ⊎ ((r ≢ row) ⊎ (c ≢ col))
      by_both (inl e) (inl f) = inl (e, f)
      by_both (inl e) (inr n) = inr (inr n)
      by_both (inr n) q = inr (inl n)

  -- where the right value is put in, what is right stays right
  pub put_right : (W : ℕ → ℕ → Value) → v ≡ W row col → (r c : ℕ) → value_at T r c ≡ W r c → value_at (with_value T row col v) r c ≡ W r c
  put_right W e r c q = by_place (put_or_not r c)
    where
      by_place : (((r ≡ row) × (c ≡ col)) ⊎ ((r ≢ row) ⊎ (c ≢ col))) → value_at (with_value T row col v) r c ≡ W r c
      by_place (inl s) = (λ i. value_at (with_value T row col v) (s.0 i) (s.1 i)) ∙ (value_put ∙ (e ∙ (λ i. W (sym s.0 i) (sym s.1 i))))
      by_place (inr n) = value_other r c n ∙ q

-- ---- tables that show the same
pub same_table : (T S : Table) → HasItsSize T → HasItsSize S → T.size ≡ S.size → ((r c : ℕ) → r < T.size.rows → c < T.size.cols → value_at T r c ≡ value_at S r c) → T ≡ S
same_table T S t s size h = λ i. record { size = size i; rows = rows i }
  where
    rows_size : T.size.rows ≡ S.size.rows
    rows_size = ap (λ (z : Size). z.rows) size

    cols_size : T.size.cols ≡ S.size.cols
    cols_size = ap (λ (z : Size). z.cols) size

    row_default : (rows : List (List Value)) (r : ℕ) (d : List Value) → r < length rows → slice_index_or rows r d ≡ slice_index_or rows r []
    row_default [] r d l = absurd (omega arith)
    row_default (x ∷ xs) zero d l = refl
    row_default (x ∷ xs) (suc r) d l = row_default xs r d (omega arith)

    value_default : (row : List Value) (c : ℕ) (d : Value) → c < length row → slice_index_or row c d ≡ slice_index_or row c value.Empty
    value_default [] c d l = absurd (omega arith)
    value_default (x ∷ xs) zero d l = refl
    value_default (x ∷ xs) (suc c) d l = value_default xs c d (omega arith)

    rows : T.rows ≡ S.rows
    rows = same_lists T.rows S.rows (t.0 ∙ (rows_size ∙ sym s.0)) row
      where
        row : (r : ℕ) (d : List Value) → r < length T.rows → slice_index_or T.rows r d ≡ slice_index_or S.rows r d
        row r d l =
            row_default T.rows r d l
            ∙ (same_lists (slice_index_or T.rows r []) (slice_index_or S.rows r []) (left ∙ (cols_size ∙ sym right)) at
            ∙ sym (row_default S.rows r d there))
          where
            inside : r < T.size.rows
            inside = let e = t.0 in omega (arith, e, l)

            there : r < length S.rows
            there = let e = s.0 in let f = rows_size in omega (arith, e, f, inside)

            left : length (slice_index_or T.rows r []) ≡ T.size.cols
            left = at_all T.size.cols T.rows r t.1 l

            right : length (slice_index_or S.rows r []) ≡ S.size.cols
            right = at_all S.size.cols S.rows r s.1 there

            at : (c : ℕ) (e : Value) → c < length (slice_index_or T.rows r []) → slice_index_or (slice_index_or T.rows r []) c e ≡ slice_index_or (slice_index_or S.rows r []) c e
            at c e m =
                let a = left in
                let b = right in
                let f = cols_size in
                value_default (slice_index_or T.rows r []) c e m
                ∙ (h r c inside (omega (arith, a, m))
                ∙ sym (value_default (slice_index_or S.rows r []) c e (omega (arith, a, b, f, m))))
