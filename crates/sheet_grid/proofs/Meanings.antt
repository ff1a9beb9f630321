-- What is written is kept by numbers, and means what it means by positions.
use Rattle.std.proofs.Common.{◌≡◌, ℕ, zero, suc, ◌<◌, ◌≤◌, ◌≢◌, ◌⊎◌, inl, inr, Bool, true, false, cond, List, [], ◌∷◌, length, refl, ap, sym, ◌∙◌, arith}
use Rattle.std.specs.Prelude.{nat_le, slice_index, slice_index_or}
use Rattle.std.proofs.lemmas.Bool.{cases_eq}
use Rattle.std.proofs.lemmas.Bool.Decides.{nat_tests}
use Rattle.ss_base.specs.declared.types.Spot.{Spot}
use Rattle.ss_base.specs.declared.types.Span.{Span}
use Rattle.sheet_ops.specs.declared.content.Content.{Content}
use Rattle.sheet_ops.specs.declared.content.Content.TheVariants as content
use Rattle.sheet_ops.specs.LineIds.{opening_id}
use Rattle.sheet_ops.specs.Lines.{no_line, slot_place, slot_at, rec_at}
use Rattle.sheet_ops.specs.Identity.{formula}
use Rattle.sheet_ops.specs.Naming.{resolve_cell, resolve_range, resolve_content}
use Rattle.sheet_ops.specs.Fits.{CellFits, RangeFits, AreApart, IsWellFormed}
use Rattle.formula_tree.specs.Remap.{EachReference}
use Rattle.sheet_ops.proofs.Places.{place_of_at}
use Rattle.sheet_ops.proofs.Renamed.{rename_same, rename_rename, references_weaker}
use Rattle.sheet_grid.specs.Numbers.{lines_of}
use Rattle.sheet_grid.specs.Kept.{NumberedAxis, KeptSheet, axis, cell_meant, in_order, range_meant, content_meant, by_numbers, kept_size, slot_number, rec_number, cell_numbered, range_numbered, content_numbered}

pub slot_there : (slots recs : List ℕ) (p : ℕ) → length recs ≡ length slots → p < length slots → (slice_index_or (lines_of slots recs) p no_line).slot ≡ opening_id (slice_index slots p)
slot_there [] recs p e h = absurd (omega arith)
slot_there (s ∷ slots) [] p e h = absurd (omega arith)
slot_there (s ∷ slots) (r ∷ recs) zero e h = refl
slot_there (s ∷ slots) (r ∷ recs) (suc p) e h = slot_there slots recs p (omega arith) (omega arith)

pub rec_there : (slots recs : List ℕ) (p : ℕ) → length recs ≡ length slots → p < length slots → (slice_index_or (lines_of slots recs) p no_line).rec ≡ opening_id (slice_index recs p)
rec_there [] recs p e h = absurd (omega arith)
rec_there (s ∷ slots) [] p e h = absurd (omega arith)
rec_there (s ∷ slots) (r ∷ recs) zero e h = refl
rec_there (s ∷ slots) (r ∷ recs) (suc p) e h = rec_there slots recs p (omega arith) (omega arith)

pub length-lines_of : (slots recs : List ℕ) → length recs ≡ length slots → length (lines_of slots recs) ≡ length slots
length-lines_of [] recs e = refl
length-lines_of (s ∷ slots) [] e = absurd (omega arith)
length-lines_of (s ∷ slots) (r ∷ recs) e = ap suc (length-lines_of slots recs (omega arith))

-- two ends kept in order or turned, and read by where the lines stand
module _ (le : ℕ → ℕ → Bool) (x y : ℕ) where
  first_id : (t : Bool) → (t ≡ true → le x y ≡ true) → (t ≡ false → le y x ≡ false) → cond (le (cond t x y) (cond t y x)) (opening_id (cond t x y)) (opening_id (cond t y x)) ≡ opening_id x
  first_id true f g = ap (λ b. cond b (opening_id x) (opening_id y)) (f refl)
  first_id false f g = ap (λ b. cond b (opening_id y) (opening_id x)) (g refl)

  last_id : (t : Bool) → (t ≡ true → le x y ≡ true) → (t ≡ false → le y x ≡ false) → cond (le (cond t x y) (cond t y x)) (opening_id (cond t y x)) (opening_id (cond t x y)) ≡ opening_id y
  last_id true f g = ap (λ b. cond b (opening_id y) (opening_id x)) (f refl)
  last_id false f g = ap (λ b. cond b (opening_id x) (opening_id y)) (g refl)

  first_flag : (t : Bool) → (t ≡ true → le x y ≡ true) → (t ≡ false → le y x ≡ false) → (v w : Bool) → cond (le (cond t x y) (cond t y x)) (cond t v w) (cond t w v) ≡ v
  first_flag true f g v w = ap (λ b. cond b v w) (f refl)
  first_flag false f g v w = ap (λ b. cond b w v) (g refl)

  last_flag : (t : Bool) → (t ≡ true → le x y ≡ true) → (t ≡ false → le y x ≡ false) → (v w : Bool) → cond (le (cond t x y) (cond t y x)) (cond t w v) (cond t v w) ≡ w
  last_flag true f g v w = ap (λ b. cond b w v) (f refl)
  last_flag false f g v w = ap (λ b. cond b v w) (g refl)

le_test : (m n : ℕ) → m ≤ n → nat_le m n ≡ true
le_test m n h = grind (arith, nat_tests)

gt_test : (m n : ℕ) → m < n → nat_le n m ≡ false
gt_test m n h = grind (arith, nat_tests)

refl_test : (m n : ℕ) → m ≡ n → nat_le m n ≡ true
refl_test m n h = grind (arith, nat_tests)

-- slots at two positions in order
module _ (A : NumberedAxis) (formed : AreApart (λ l. l.slot) (axis A).lines) (same : length A.recs ≡ length A.slots) (p q : ℕ) (h : q < length A.slots) (up : p ≤ q) where
  abbrev x : ℕ
  x = slot_number A p

  abbrev y : ℕ
  y = slot_number A q

  abbrev le : ℕ → ℕ → Bool
  le m n = nat_le (slot_place (axis A) (opening_id m)) (slot_place (axis A) (opening_id n))

  place_is : (r : ℕ) → r < length A.slots → slot_place (axis A) (opening_id (slot_number A r)) ≡ r
  place_is r j = ap (slot_place (axis A)) (sym (slot_there A.slots A.recs r same j)) ∙ place_of_at (λ l. l.slot) (axis A).lines formed r (let n = length-lines_of A.slots A.recs same in omega arith)

  pub when_kept : nat_le (slot_number A p) (slot_number A q) ≡ true → nat_le (slot_place (axis A) (opening_id (slot_number A p))) (slot_place (axis A) (opening_id (slot_number A q))) ≡ true
  when_kept t = (λ i. nat_le (place_is p (omega arith) i) (place_is q h i)) ∙ le_test p q up

  pub when_turned : nat_le (slot_number A p) (slot_number A q) ≡ false → nat_le (slot_place (axis A) (opening_id (slot_number A q))) (slot_place (axis A) (opening_id (slot_number A p))) ≡ false
  when_turned t = (λ i. nat_le (place_is q h i) (place_is p (omega arith) i)) ∙ gt_test p q (apart (cases_eq p q))
    where
      apart : ((p ≡ q) ⊎ (p ≢ q)) → p < q
      apart (inr e) = lower p q up e
        where
          lower : (m n : ℕ) → m ≤ n → m ≢ n → m < n
          lower m n j k = omega (arith, j, k)
      apart (inl e) = absurd (let clash : true ≡ false = sym (refl_test (slot_number A p) (slot_number A q) (ap (slot_number A) e)) ∙ t in cc)

module _ (k : KeptSheet) (ok : IsWellFormed (by_numbers k)) (rows : length k.rows.recs ≡ length k.rows.slots) (cols : length k.cols.recs ≡ length k.cols.slots) where
  pub row_rec : (p : ℕ) → p < length k.rows.slots → rec_at (axis k.rows) p ≡ opening_id (rec_number k.rows p)
  row_rec p h = rec_there k.rows.slots k.rows.recs p rows h

  pub col_rec : (p : ℕ) → p < length k.cols.slots → rec_at (axis k.cols) p ≡ opening_id (rec_number k.cols p)
  col_rec p h = rec_there k.cols.slots k.cols.recs p cols h

  row_slot : (p : ℕ) → p < length k.rows.slots → slot_at (axis k.rows) p ≡ opening_id (slot_number k.rows p)
  row_slot p h = slot_there k.rows.slots k.rows.recs p rows h

  col_slot : (p : ℕ) → p < length k.cols.slots → slot_at (axis k.cols) p ≡ opening_id (slot_number k.cols p)
  col_slot p h = slot_there k.cols.slots k.cols.recs p cols h

  cell_same : (s : Spot) → CellFits (kept_size k) s → cell_meant (axis k.rows) (axis k.cols) (cell_numbered k.rows k.cols s) ≡ resolve_cell (by_numbers k) s
  cell_same s f = λ i. record (resolve_cell (by_numbers k) s) { row = sym (row_rec s.row f.0) i; col = sym (col_rec s.col f.1) i }

  -- the corners of a range are in order
  abbrev pub IsInOrder : Span → Type 0
  IsInOrder s = (s.top ≤ s.bottom) × (s.left ≤ s.right)

  range_same : (s : Span) → RangeFits (kept_size k) s × IsInOrder s → range_meant (axis k.rows) (axis k.cols) (range_numbered k.rows k.cols s) ≡ resolve_range (by_numbers k) s
  range_same s f =
      let rows_le : ℕ → ℕ → Bool = in_order (axis k.rows) (axis k.cols) (axis k.rows) in
      let cols_le : ℕ → ℕ → Bool = in_order (axis k.rows) (axis k.cols) (axis k.cols) in
      let top = slot_number k.rows s.top in
      let bottom = slot_number k.rows s.bottom in
      let left = slot_number k.cols s.left in
      let right = slot_number k.cols s.right in
      let rk = when_kept k.rows ok.rows.slots rows s.top s.bottom f.0.1.0 f.1.0 in
      let rt = when_turned k.rows ok.rows.slots rows s.top s.bottom f.0.1.0 f.1.0 in
      let ck = when_kept k.cols ok.cols.slots cols s.left s.right f.0.1.1 f.1.1 in
      let ct = when_turned k.cols ok.cols.slots cols s.left s.right f.0.1.1 f.1.1 in
      λ i. record {
        top = (first_id rows_le top bottom (nat_le top bottom) rk rt ∙ sym (row_slot s.top f.0.0.0)) i;
        left = (first_id cols_le left right (nat_le left right) ck ct ∙ sym (col_slot s.left f.0.0.1)) i;
        bottom = (last_id rows_le top bottom (nat_le top bottom) rk rt ∙ sym (row_slot s.bottom f.0.1.0)) i;
        right = (last_id cols_le left right (nat_le left right) ck ct ∙ sym (col_slot s.right f.0.1.1)) i;
        abs_top = first_flag rows_le top bottom (nat_le top bottom) rk rt s.abs_top s.abs_bottom i;
        abs_left = first_flag cols_le left right (nat_le left right) ck ct s.abs_left s.abs_right i;
        abs_bottom = last_flag rows_le top bottom (nat_le top bottom) rk rt s.abs_top s.abs_bottom i;
        abs_right = last_flag cols_le left right (nat_le left right) ck ct s.abs_left s.abs_right i;
      }

  -- each reference is inside, and each range in order
  abbrev pub ContentPlaced : Content → Type 0
  ContentPlaced (content.Formula t) = EachReference (CellFits (kept_size k)) (λ s. RangeFits (kept_size k) s × IsInOrder s) t
  ContentPlaced c = Unit {0}

  -- a content kept by numbers means what it means by positions
  pub content_same : (c : Content) → ContentPlaced c → content_meant (axis k.rows) (axis k.cols) (content_numbered k.rows k.cols c) ≡ resolve_content (by_numbers k) c
  content_same content.Empty f = refl
  content_same (content.Num z) f = refl
  content_same (content.Text t) f = refl
  content_same (content.Formula t) f =
      ap formula (rename_rename (cell_numbered k.rows k.cols) (range_numbered k.rows k.cols) (cell_meant (axis k.rows) (axis k.cols)) (range_meant (axis k.rows) (axis k.cols)) t
      ∙ rename_same (λ s. cell_meant (axis k.rows) (axis k.cols) (cell_numbered k.rows k.cols s)) (resolve_cell (by_numbers k)) (λ s. range_meant (axis k.rows) (axis k.cols) (range_numbered k.rows k.cols s)) (resolve_range (by_numbers k)) t
      (references_weaker (CellFits (kept_size k)) (λ s. RangeFits (kept_size k) s × IsInOrder s) _ _ cell_same range_same t f))
