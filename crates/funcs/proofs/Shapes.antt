-- Cells and ranges as lists of items.
use Rattle.std.proofs.Common.{◌≡◌, ℕ, zero, suc, ◌+◌, ◌*◌, ◌/◌, ◌%◌, ◌^◌, ◌<◌, ◌≤◌, List, [], ◌∷◌, ◌++◌, length, Ok, Err, refl, sym, ap, ◌∙◌, subst, arith, length-append}
use Rattle.std.specs.Prelude.{slice_get, slice_index_or, ok_or, Option, Some, None}
use Rattle.std.specs.Option.{option_and_then}
use Rattle.std.specs.List.{AllByRecursion}
use Rattle.std.proofs.lemmas.Option.{slice_get_past, slice_get-get_or}
use Rattle.std.proofs.Math.Nat.{suc-mul, mul-le-mul, div-lt_iff_lt-mul, div-le_self}
use Rattle.std.proofs.lemmas.Nat.{div-add-mod'}
use Rattle.ss_base.specs.declared.types.Size.{Size}
use Rattle.ss_base.specs.declared.types.CalcErr.TheVariants as fault
use Rattle.sheet_value.specs.declared.value.Value.{Value}
use Rattle.sheet_value.specs.declared.value.Value.TheVariants as value
use Rattle.sheet_value.specs.Tables.{column_of, filled_up}
use Rattle.funcs.specs.declared.area.Place.{Place}
use Rattle.funcs.specs.declared.area.Place.TheVariants as place
use Rattle.funcs.specs.Areas.{items, width, item_at}
use Rattle.funcs.specs.Places.{values_of, HasShape}

-- ---- a list in front of another
slice_get-front : {A : Type 0} (xs ys : List A) (i : ℕ) → i < length xs → slice_get (xs ++ ys) i ≡ slice_get xs i
slice_get-front [] ys i h = absurd (omega arith)
slice_get-front (x ∷ xs) ys zero h = refl
slice_get-front (x ∷ xs) ys (suc i) h = slice_get-front xs ys i (omega arith)

slice_get-back : {A : Type 0} (xs ys : List A) (i : ℕ) → slice_get (xs ++ ys) (length xs + i) ≡ slice_get ys i
slice_get-back [] ys i = ap (λ (k : ℕ). slice_get ys k) (let z : 0 + i ≡ i = omega arith in z)
slice_get-back (x ∷ xs) ys i = ap (λ (k : ℕ). slice_get (x ∷ (xs ++ ys)) k) (let z : length (x ∷ xs) + i ≡ suc (length xs + i) = omega arith in z) ∙ slice_get-back xs ys i

-- ---- rows of one width
abbrev AreWide : ℕ → List (List Value) → Type 0
AreWide n rows = AllByRecursion (λ row. length row ≡ n) rows

length-items : (n : ℕ) (rows : List (List Value)) → AreWide n rows → length (items rows) ≡ length rows * n
length-items n [] h = let z : 0 ≡ 0 * n = omega arith in z
length-items n (r ∷ rows) h =
    length-append r (items rows)
    ∙ ((λ i. h.0 i + length-items n rows h.1 i)
    ∙ (let e : suc (length rows) * n ≡ length rows * n + n = suc-mul (length rows) n in omega arith))

item : (n : ℕ) (rows : List (List Value)) → AreWide n rows → (i j : ℕ) → j < n → slice_get (items rows) (i * n + j) ≡ option_and_then (λ (r : List Value). slice_get r j) (slice_get rows i)
item n [] h i j k = refl
item n (r ∷ rows) h zero j k =
    ap (λ (m : ℕ). slice_get (items (r ∷ rows)) m) (let z : 0 * n + j ≡ j = omega arith in z)
    ∙ slice_get-front r (items rows) j (let l = h.0 in omega (arith, l, k))
item n (r ∷ rows) h (suc i) j k =
    ap (λ (m : ℕ). slice_get (items (r ∷ rows)) m)
    (let l = h.0 in let e : suc i * n ≡ i * n + n = suc-mul i n in let z : suc i * n + j ≡ length r + (i * n + j) = omega (arith, l, e) in z)
    ∙ (slice_get-back r (items rows) (i * n + j)
    ∙ item n rows h.1 i j k)

-- each row ends with its last column
row_end : (n : ℕ) (rows : List (List Value)) → AreWide n rows → (i j : ℕ) → n ≤ j → option_and_then (λ (r : List Value). slice_get r j) (slice_get rows i) ≡ None
row_end n [] h i j k = refl
row_end n (r ∷ rows) h zero j k = slice_get_past r j (let l = h.0 in omega (arith, l, k))
row_end n (r ∷ rows) h (suc i) j k = row_end n rows h.1 i j k

-- an item inside
within : (n : ℕ) (rows : List (List Value)) → AreWide n rows → (i j : ℕ) → i < length rows → j < n → item_at rows i j ≡ Ok (slice_index_or (slice_index_or rows i []) j value.Empty)
within n [] h i j k l = absurd (omega arith)
within n (r ∷ rows) h zero j k l = ap (λ (o : Option Value). ok_or o fault.Lost) (slice_get-get_or r j value.Empty (let e = h.0 in omega (arith, e, l)))
within n (r ∷ rows) h (suc i) j k l = within n rows h.1 i j (omega arith) l

first_width : (n : ℕ) (rows : List (List Value)) → AreWide n rows → 0 < length rows → width rows ≡ n
first_width n [] h k = absurd (omega arith)
first_width n (r ∷ rows) h k = h.0

-- the items of a single column
alone : (rows : List (List Value)) → AreWide 1 rows → items rows ≡ column_of rows 0
alone [] h = refl
alone (r ∷ rows) h = by_row r h.0 (alone rows h.1)
  where
    by_row : (vs : List Value) → length vs ≡ 1 → items rows ≡ column_of rows 0 → vs ++ items rows ≡ slice_index_or vs 0 value.Empty ∷ column_of rows 0
    by_row [] e rest = absurd (omega (arith, e))
    by_row (v ∷ []) e rest = ap (λ (ws : List Value). v ∷ ws) rest
    by_row (v ∷ w ∷ vs) e rest = absurd (omega (arith, e))

-- ---- the shape of a cell or a range
pub record IsShape (vs : List (List Value)) (shape : Size) : Type 0 where
  pub rows : length vs ≡ shape.rows
  pub cols : width vs ≡ shape.cols
  pub some_cols : 0 < shape.cols
  pub few_rows : shape.rows ≤ 16000
  pub few_cols : shape.cols ≤ 16000
  pub widths : AreWide shape.cols vs

one_value : (vs : List Value) → length vs ≤ 1 → length (filled_up vs 1) ≡ 1
one_value [] h = refl
one_value (v ∷ []) h = refl
one_value (v ∷ w ∷ vs) h = absurd (omega (arith, h))

pub is_shape : (at : Place) (shape : Size) → HasShape at shape → IsShape (values_of at) shape
is_shape (place.Cell vs) shape h =
    subst (λ (s : Size). IsShape (filled_up vs.now 1 ∷ []) s) (sym h.1)
    (record { rows = refl; cols = one_value vs.now h.0; some_cols = omega arith; few_rows = omega arith; few_cols = omega arith; widths = (one_value vs.now h.0, tt) })
is_shape (place.Range w) shape h =
    subst (λ (s : Size). IsShape w.rows s) h.1
    (record {
      rows = h.0.height;
      cols = first_width w.size.cols w.rows h.0.widths (let l = h.0.height in let k = h.0.some_rows in omega (arith, l, k));
      some_cols = h.0.some_cols;
      few_rows = h.0.few_rows;
      few_cols = h.0.few_cols;
      widths = h.0.widths;
    })

pub area_shape : (at : Place) (shape : Size) (vs : List (List Value)) → HasShape at shape → values_of at ≡ vs → IsShape vs shape
area_shape at shape vs h e = subst (λ (m : List (List Value)). IsShape m shape) e (is_shape at shape h)

some_or : (o : Option Value) (v : Value) → ok_or o fault.Lost ≡ Ok v → o ≡ Some v
some_or None v e = absurd (cc)
some_or (Some w) v e = cc

module _ (vs : List (List Value)) (shape : Size) (is : IsShape vs shape) where
  pub count : length (items vs) ≡ shape.rows * shape.cols
  count = length-items shape.cols vs is.widths ∙ (λ i. is.rows i * shape.cols)

  few : shape.rows * shape.cols ≤ 256000000
  few = let m : shape.rows * shape.cols ≤ 16000 * 16000 = mul-le-mul is.few_rows is.few_cols in omega arith

  pub few_items : length (items vs) ≤ 256000000
  few_items = let c = count in let f = few in omega (arith, c, f)

  -- so each row has a small number
  pub small_row : (i : ℕ) → i < length (items vs) → i / shape.cols < 2 ^ 32
  small_row i inside =
      let c = few_items in
      let l : i / shape.cols ≤ i = div-le_self i shape.cols in
      omega (arith, c, l, inside)

  pub value_there : (row col : ℕ) → row < length vs → col < width vs → item_at vs row col ≡ Ok (slice_index_or (slice_index_or vs row []) col value.Empty)
  value_there row col h k = within shape.cols vs is.widths row col h (let e = is.cols in omega (arith, e, k))

  pub only_items : shape.cols ≡ 1 → items vs ≡ column_of vs 0
  only_items e = alone vs (subst (λ (n : ℕ). AreWide n vs) e is.widths)

  -- the row of an item
  pub in_rows : (i : ℕ) → i < length (items vs) → i / shape.cols < length vs
  in_rows i h =
      let e : length vs ≡ shape.rows = is.rows in
      let k : i < shape.rows * shape.cols = let c = count in omega (arith, c, h) in
      let l : i / shape.cols < shape.rows = (div-lt_iff_lt-mul is.some_cols).1 k in
      omega (arith, e, l)

  pub in_cols : (i : ℕ) → i % shape.cols < shape.cols
  in_cols i = let c = is.some_cols in omega (arith, c)

  pub item_is : (i : ℕ) (v : Value) → item_at vs (i / shape.cols) (i % shape.cols) ≡ Ok v → slice_get (items vs) i ≡ Some v
  item_is i v e =
      ap (λ (k : ℕ). slice_get (items vs) k) (sym (div-add-mod' i shape.cols))
      ∙ (item shape.cols vs is.widths (i / shape.cols) (i % shape.cols) (in_cols i)
      ∙ some_or (option_and_then (λ (r : List Value). slice_get r (i % shape.cols)) (slice_get vs (i / shape.cols))) v e)

  pub below_rows : (row col : ℕ) → shape.rows ≤ row → Err fault.Lost ≡ item_at vs row col
  below_rows row col h = ap (λ (o : Option (List Value)). ok_or (option_and_then (λ (r : List Value). slice_get r col) o) fault.Lost) (sym (slice_get_past vs row (let e = is.rows in omega (arith, e, h))))

  pub past_cols : (row col : ℕ) → shape.cols ≤ col → Err fault.Lost ≡ item_at vs row col
  past_cols row col h = ap (λ (o : Option Value). ok_or o fault.Lost) (sym (row_end shape.cols vs is.widths row col h))
