-- The table of a sheet's values, index by index.
use Rattle.std.proofs.Common.{◌≡◌, ℕ, zero, suc, ◌+◌, ◌<◌, Bool, true, false, cond, List, [], ◌∷◌, length, map, refl, ap, sym, ◌∙◌, arith}
use Rattle.std.specs.Prelude.{not, filter, slice_get, slice_index_or, unwrap_or}
use Rattle.std.specs.List.{AllByRecursion}
use Rattle.std.proofs.lemmas.List.{length-map}
use Rattle.marked_lines.specs.Marks.{places_from, visible_places}
use Rattle.sheet_ops.specs.LineIds.{LineId}
use Rattle.sheet_ops.specs.Lines.{AxisLine, Axis, live_lines, rec_at, marks, no_line}
use Rattle.sheet_ops.specs.Identity.{IdSheet}
use Rattle.sheet_ops.specs.Placed.{placed}
use Rattle.sheet_value.specs.declared.value.Value.{Value}
use Rattle.sheet_value.specs.declared.value.Value.TheVariants as value
use Rattle.sheet_value.specs.Tables.{Table, value_at}
use Rattle.sheet_grid.specs.Cells.{visible_size}
use Rattle.full_calc.specs.Values.{value_of, value_table}
use Rattle.full_calc.specs.Shown.{visible_position, value_shown, HasItsSize}
use Rattle.full_calc.proofs.Tables.{same_table}

-- ---- the lines that are live stand at the positions that are visible
module _ (dead : LineId → Bool) (at : ℕ → LineId) where
  abbrev AreAt : ℕ → List AxisLine → Type 0
  AreAt k [] = Unit {0}
  AreAt k (l ∷ ls) = (at k ≡ l.rec) × AreAt (suc k) ls

  records : (k : ℕ) (ls : List AxisLine) → AreAt k ls → map (λ (l : AxisLine). l.rec) (filter (λ l. not (dead l.rec)) ls) ≡ map at (places_from k (map (λ l. dead l.rec) ls))
  records k [] h = refl
  records k (l ∷ ls) h = by_mark (dead l.rec) (records (suc k) ls h.1)
    where
      by_mark : (b : Bool) → map (λ (l : AxisLine). l.rec) (filter (λ l. not (dead l.rec)) ls) ≡ map at (places_from (suc k) (map (λ l. dead l.rec) ls)) →
          map (λ (l : AxisLine). l.rec) (cond (not b) (l ∷ filter (λ l. not (dead l.rec)) ls) (filter (λ l. not (dead l.rec)) ls)) ≡ map at (places_from k (b ∷ map (λ l. dead l.rec) ls))
      by_mark true r = r
      by_mark false r = λ i. sym h.0 i ∷ r i

  are_at : (ls : List AxisLine) (k : ℕ) → ((j : ℕ) → at (k + j) ≡ (slice_index_or ls j no_line).rec) → AreAt k ls
  are_at [] k h = tt
  are_at (l ∷ ls) k h = (
    ap at (let e : k ≡ k + 0 = omega arith in e) ∙ h 0,
    are_at ls (suc k) (λ j. ap at (let e : suc k + j ≡ k + suc j = omega arith in e) ∙ h (suc j)),
  )

live_records : (axis : Axis) → map (λ (l : AxisLine). l.rec) (live_lines axis) ≡ map (rec_at axis) (visible_places (marks axis))
live_records axis = records axis.dead (rec_at axis) 0 axis.lines (are_at axis.dead (rec_at axis) axis.lines 0 (λ j. ap (rec_at axis) (let e : 0 + j ≡ j = omega arith in e)))

pub live_count : (axis : Axis) → length (live_lines axis) ≡ length (visible_places (marks axis))
live_count axis =
    sym (length-map (live_lines axis) (λ (l : AxisLine). l.rec))
    ∙ (ap (λ (ids : List LineId). length ids) (live_records axis) ∙ length-map (visible_places (marks axis)) (rec_at axis))

-- ---- lists
module _ {A B : Type 0} (f : A → B) where
  at_map : (xs : List A) (k : ℕ) (d : B) (e : A) → k < length xs → slice_index_or (map f xs) k d ≡ f (slice_index_or xs k e)
  at_map [] k d e h = absurd (omega arith)
  at_map (x ∷ xs) zero d e h = refl
  at_map (x ∷ xs) (suc k) d e h = at_map xs k d e (omega arith)

map_map : {A B C : Type 0} (f : A → B) (g : B → C) (xs : List A) → map g (map f xs) ≡ map (λ x. g (f x)) xs
map_map f g [] = refl
map_map f g (x ∷ xs) = ap (λ ys. g (f x) ∷ ys) (map_map f g xs)

place_is : (ps : List ℕ) (v : ℕ) → slice_index_or ps v 0 ≡ unwrap_or (slice_get ps v) 0
place_is [] v = refl
place_is (p ∷ ps) zero = refl
place_is (p ∷ ps) (suc v) = place_is ps v

all_same : (n : ℕ) (f : AxisLine → List Value) (ls : List AxisLine) → ((l : AxisLine) → length (f l) ≡ n) → AllByRecursion (λ (row : List Value). length row ≡ n) (map f ls)
all_same n f [] h = tt
all_same n f (l ∷ ls) h = (h l, all_same n f ls h)

-- ---- the table
module _ (X : IdSheet) where
  abbrev row_of : AxisLine → List Value
  row_of r = map (λ (c : AxisLine). value_of X (record { row = r.rec; col = c.rec })) (live_lines X.cols)

  pub table_shaped : HasItsSize (value_table X)
  table_shaped = (
    length-map (live_lines X.rows) row_of,
    all_same (length (live_lines X.cols)) row_of (live_lines X.rows) (λ r. length-map (live_lines X.cols) (λ (c : AxisLine). value_of X (record { row = r.rec; col = c.rec }))),
  )

  pub table_size : (value_table X).size ≡ visible_size (placed X)
  table_size = λ i. record { rows = live_count X.rows i; cols = live_count X.cols i }

  abbrev row_by : LineId → List Value
  row_by a = map (λ (b : LineId). value_of X (record { row = a; col = b })) (map (rec_at X.cols) (visible_places (marks X.cols)))

  -- the rows by the records at visible positions
  rows_are : (value_table X).rows ≡ map row_by (map (rec_at X.rows) (visible_places (marks X.rows)))
  rows_are =
      rows_by (live_lines X.rows)
      ∙ ap (λ (ids : List LineId). map row_by ids) (live_records X.rows)
    where
      row_is : (r : AxisLine) → row_of r ≡ row_by r.rec
      row_is r =
          sym (map_map (λ (c : AxisLine). c.rec) (λ (b : LineId). value_of X (record { row = r.rec; col = b })) (live_lines X.cols))
          ∙ ap (λ (ids : List LineId). map (λ (b : LineId). value_of X (record { row = r.rec; col = b })) ids) (live_records X.cols)

      rows_by : (ls : List AxisLine) → map row_of ls ≡ map row_by (map (λ (l : AxisLine). l.rec) ls)
      rows_by [] = refl
      rows_by (l ∷ ls) = λ i. row_is l i ∷ rows_by ls i

  pub table_value : (r c : ℕ) → r < length (visible_places (marks X.rows)) → c < length (visible_places (marks X.cols)) → value_at (value_table X) r c ≡ value_shown X r c
  table_value r c h k =
      ap (λ (rows : List (List Value)). slice_index_or (slice_index_or rows r []) c value.Empty) rows_are
      ∙ (ap (λ (row : List Value). slice_index_or row c value.Empty)
      (at_map row_by (map (rec_at X.rows) (visible_places (marks X.rows))) r [] no_line.rec (let e = length-map (visible_places (marks X.rows)) (rec_at X.rows) in omega (arith, e, h)))
      ∙ (at_map (λ (b : LineId). value_of X (record { row = slice_index_or (map (rec_at X.rows) (visible_places (marks X.rows))) r no_line.rec; col = b })) (map (rec_at X.cols) (visible_places (marks X.cols))) c value.Empty no_line.rec (let e = length-map (visible_places (marks X.cols)) (rec_at X.cols) in omega (arith, e, k))
      ∙ (λ i. value_of X (record { row = line X.rows r h i; col = line X.cols c k i }))))
    where
      line : (axis : Axis) (v : ℕ) → v < length (visible_places (marks axis)) → slice_index_or (map (rec_at axis) (visible_places (marks axis))) v no_line.rec ≡ rec_at axis (visible_position (marks axis) v)
      line axis v l = at_map (rec_at axis) (visible_places (marks axis)) v no_line.rec 0 l ∙ ap (rec_at axis) (place_is (visible_places (marks axis)) v)

  -- a table that shows the values of the sheet is the sheet's table
  pub shows_all : (T : Table) → HasItsSize T → T.size ≡ visible_size (placed X) → ((r c : ℕ) → r < T.size.rows → c < T.size.cols → value_at T r c ≡ value_shown X r c) → T ≡ value_table X
  shows_all T shape size h =
      same_table T (value_table X) shape table_shaped (size ∙ sym table_size) (λ r c l m. h r c l m ∙ sym (table_value r c (row_below l) (col_below m)))
    where
      row_below : {r : ℕ} → r < T.size.rows → r < length (visible_places (marks X.rows))
      row_below l = let e = ap (λ (z : Rattle.ss_base.specs.declared.types.Size.Size). z.rows) size in omega (arith, e, l)

      col_below : {c : ℕ} → c < T.size.cols → c < length (visible_places (marks X.cols))
      col_below l = let e = ap (λ (z : Rattle.ss_base.specs.declared.types.Size.Size). z.cols) size in omega (arith, e, l)
