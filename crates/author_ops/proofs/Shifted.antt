-- A copy by identity is the copy by positions, and it fits.
use Rattle.std.proofs.Common.{◌≡◌, ℕ, zero, suc, ◌+◌, ◌-◌, ◌*◌, ◌<◌, ◌≤◌, ◌≢◌, Bool, true, false, cond, List, [], ◌∷◌, ◌++◌, length, take, drop, get_or, refl, ap, sym, ◌∙◌, subst, arith, Option, Some, None, All, AllPairs, Ok, Err}
use Rattle.std.specs.Prelude.{◌&&◌, ◌||◌, map, nat_eq, nat_lt, nat_le, slice_get, slice_index_or, Result}
use Rattle.std.specs.List.{zip, flat_map, list_any}
use Rattle.std.specs.Option.{option_and_then, option_map}
use Rattle.std.proofs.lemmas.Bool.Decides.{nat_tests}
use Rattle.std.proofs.Math.Nat.{mul-le-mul_left}
use Rattle.std.proofs.lemmas.List.{length-append}
use Rattle.std.proofs.lemmas.List.Elements.{All-nil, All-cons, All-head, All-tail, All-weaker, All-take, All-drop}
use Rattle.std.proofs.lemmas.List.Folds.{list_any-append}
use Rattle.ss_base.specs.declared.types.Size.{Size}
use Rattle.ss_base.specs.declared.types.Spot.{Spot}
use Rattle.ss_base.specs.declared.types.Span.{Span}
use Rattle.formula_tree.specs.Remap.{cell_or_lost, range_or_lost}
use Rattle.formula_tree.specs.WellFormed.{IsWellFormed}
use Rattle.cell_addr.specs.Cells.{range_between}
use Rattle.marked_lines.specs.Marks.{visible_count, visible_places, places_from, visible_of, span_of}
use Rattle.marked_lines.proofs.Positions.{length-places_from}
use Rattle.sheet_ops.specs.declared.content.Content.{Content}
use Rattle.sheet_ops.specs.declared.content.Content.TheVariants as content
use Rattle.sheet_ops.specs.declared.content.Put.{Put}
use Rattle.sheet_ops.specs.declared.operation.Intent.{Intent}
use Rattle.sheet_ops.specs.declared.operation.Intent.TheVariants as intent
use Rattle.sheet_ops.specs.declared.edit.EditErr.{EditErr}
use Rattle.sheet_ops.specs.declared.edit.EditErr.TheVariants as fault
use Rattle.sheet_ops.specs.Fits.{IntentFits, PutsFit, ContentFits, CellFits, RangeFits, writes_cell, same_cell}
use Rattle.sheet_ops.specs.Lines.{AxisLine, no_line, rec_at, marks}
use Rattle.sheet_ops.specs.Identity.{IdContent, blank, number, text, formula, IdSheet}
use Rattle.sheet_ops.specs.Naming.{locate_cell, locate_range, locate_content}
use Rattle.sheet_ops.specs.Placed.{PlacedSheet, placed, placed_size, cell_at}
use Rattle.sheet_ops.proofs.References.{images_each}
use Rattle.sheet_ops.proofs.Visible.{visible_below}
use Rattle.author_ops.specs.declared.axis.Shift.{Shift}
use Rattle.author_ops.specs.Copies.{shifted_index, line_shifted, ends_shifted, both_of, cell_reference, range_reference, content_copied, first_cell, line_count, are_seen, line_pairs, copied_puts}
use Rattle.author_ops.specs.Placed.{cell_shifted, range_shifted, content_shifted, put_shifted, puts_shifted, row_shift, col_shift, puts_by, copy_by}
use Rattle.author_ops.specs.Edits.{unless_heavy, copy_on}
use Rattle.author_ops.proofs.Intended.{between_inside, light_fits}
use Rattle.author_ops.proofs.Remapped.{remap_renamed}

-- ---- visible places
places_below : (o : ℕ) (ms : List Bool) → All (λ p. p < o + length ms) (places_from o ms)
places_below o [] = All-nil (λ p. p < o + 0)
places_below o (true ∷ ms) = All-weaker (λ p. p < suc o + length ms) (λ p. p < o + suc (length ms)) (λ p h. omega arith) (places_from (suc o) ms) (places_below (suc o) ms)
places_below o (false ∷ ms) =
    All-cons (λ p. p < o + suc (length ms)) o (places_from (suc o) ms) (omega arith)
    (All-weaker (λ p. p < suc o + length ms) (λ p. p < o + suc (length ms)) (λ p h. omega arith) (places_from (suc o) ms) (places_below (suc o) ms))

places_low : (o : ℕ) (ms : List Bool) → All (λ p. o ≤ p) (places_from o ms)
places_low o [] = All-nil (λ p. o ≤ p)
places_low o (true ∷ ms) = All-weaker (λ p. suc o ≤ p) (λ p. o ≤ p) (λ p h. omega arith) (places_from (suc o) ms) (places_low (suc o) ms)
places_low o (false ∷ ms) = All-cons (λ p. o ≤ p) o (places_from (suc o) ms) (omega arith) (All-weaker (λ p. suc o ≤ p) (λ p. o ≤ p) (λ p h. omega arith) (places_from (suc o) ms) (places_low (suc o) ms))

pub pairs_cons : {A : Type 0} (R : A → A → Type 0) (x : A) (xs : List A) → All (R x) xs → AllPairs R xs → AllPairs R (x ∷ xs)
pairs_cons R x xs head tail zero zero d lt within = absurd (omega arith)
pairs_cons R x xs head tail zero (suc j) d lt within = head j d (omega arith)
pairs_cons R x xs head tail (suc i) zero d lt within = absurd (omega arith)
pairs_cons R x xs head tail (suc i) (suc j) d lt within = tail i j d (omega arith) (omega arith)

pub pairs_tail : {A : Type 0} (R : A → A → Type 0) (x : A) (xs : List A) → AllPairs R (x ∷ xs) → AllPairs R xs
pairs_tail R x xs all i j d lt within = all (suc i) (suc j) d (omega arith) (omega arith)

pub pairs_head : {A : Type 0} (R : A → A → Type 0) (x : A) (xs : List A) → AllPairs R (x ∷ xs) → All (R x) xs
pairs_head R x xs all k d within = all 0 (suc k) d (omega arith) (omega arith)

places_up : (o : ℕ) (ms : List Bool) → AllPairs (λ p q. p < q) (places_from o ms)
places_up o [] = λ i j d lt within. absurd (omega arith)
places_up o (true ∷ ms) = places_up (suc o) ms
places_up o (false ∷ ms) = pairs_cons (λ p q. p < q) o (places_from (suc o) ms) (All-weaker (λ p. suc o ≤ p) (λ p. o < p) (λ p h. omega arith) (places_from (suc o) ms) (places_low (suc o) ms)) (places_up (suc o) ms)

pub visible_all : (ms : List Bool) → All (λ p. p < length ms) (visible_places ms)
visible_all ms = All-weaker (λ p. p < 0 + length ms) (λ p. p < length ms) (λ p h. omega arith) (visible_places ms) (places_below 0 ms)

pub visible_up : (ms : List Bool) → AllPairs (λ p q. p < q) (visible_places ms)
visible_up ms = places_up 0 ms

pub pairs_take : {A : Type 0} (R : A → A → Type 0) (n : ℕ) (xs : List A) → AllPairs R xs → AllPairs R (take n xs)
pairs_take R zero xs all = λ i j d lt within. absurd (omega arith)
pairs_take R (suc n) [] all = λ i j d lt within. absurd (omega arith)
pairs_take R (suc n) (x ∷ xs) all = pairs_cons R x (take n xs) (All-take (R x) n xs (pairs_head R x xs all)) (pairs_take R n xs (pairs_tail R x xs all))

pub pairs_drop : {A : Type 0} (R : A → A → Type 0) (n : ℕ) (xs : List A) → AllPairs R xs → AllPairs R (drop n xs)
pairs_drop R zero xs all = all
pairs_drop R (suc n) [] all = λ i j d lt within. absurd (omega arith)
pairs_drop R (suc n) (x ∷ xs) all = pairs_drop R n xs (pairs_tail R x xs all)

zip_all : (P Q : ℕ → Type 0) (xs ys : List ℕ) → All P xs → All Q ys → All (λ m. P m.0 × Q m.1) (zip xs ys)
zip_all P Q [] ys f g = All-nil (λ m. P m.0 × Q m.1)
zip_all P Q (x ∷ xs) [] f g = All-nil (λ m. P m.0 × Q m.1)
zip_all P Q (x ∷ xs) (y ∷ ys) f g = All-cons (λ m. P m.0 × Q m.1) (x, y) (zip xs ys) (All-head P x xs f, All-head Q y ys g) (zip_all P Q xs ys (All-tail P x xs f) (All-tail Q y ys g))

zip_pairs : (xs ys : List ℕ) → AllPairs (λ p q. p < q) ys → AllPairs (λ m n. m.1 < n.1) (zip xs ys)
zip_pairs [] ys up = λ i j d lt within. absurd (omega arith)
zip_pairs (x ∷ xs) [] up = λ i j d lt within. absurd (omega arith)
zip_pairs (x ∷ xs) (y ∷ ys) up =
    pairs_cons (λ m n. m.1 < n.1) (x, y) (zip xs ys) (All-weaker (λ m. (0 ≤ m.0) × (y < m.1)) (λ m. y < m.1) (λ m h. h.1) (zip xs ys) (zip_all (λ p. 0 ≤ p) (λ q. y < q) xs ys (λ k d within. omega arith) (pairs_head (λ p q. p < q) y ys up)))
    (zip_pairs xs ys (pairs_tail (λ p q. p < q) y ys up))

abbrev pub pairs_of : List Bool → ℕ → ℕ → ℕ → List (ℕ × ℕ)
pairs_of ms from to count = line_pairs ms from to count

pub pairs_inside : (ms : List Bool) (from to count : ℕ) → All (λ m. (m.0 < length ms) × (m.1 < length ms)) (line_pairs ms from to count)
pairs_inside ms from to count =
    zip_all (λ p. p < length ms) (λ p. p < length ms) (take count (drop from (visible_places ms))) (take count (drop to (visible_places ms)))
    (All-take (λ p. p < length ms) count (drop from (visible_places ms)) (All-drop (λ p. p < length ms) from (visible_places ms) (visible_all ms)))
    (All-take (λ p. p < length ms) count (drop to (visible_places ms)) (All-drop (λ p. p < length ms) to (visible_places ms) (visible_all ms)))

targets_up : (ms : List Bool) (from to count : ℕ) → AllPairs (λ m n. m.1 < n.1) (line_pairs ms from to count)
targets_up ms from to count =
    zip_pairs (take count (drop from (visible_places ms))) (take count (drop to (visible_places ms)))
    (pairs_take (λ p q. p < q) count (drop to (visible_places ms)) (pairs_drop (λ p q. p < q) to (visible_places ms) (visible_up ms)))

length_drop : {A : Type 0} (n : ℕ) (xs : List A) → length (drop n xs) ≡ length xs - n
length_drop zero xs = omega arith
length_drop (suc n) [] = omega arith
length_drop (suc n) (x ∷ xs) = let rest = length_drop n xs in omega (arith, rest)

length_take : {A : Type 0} (n : ℕ) (xs : List A) → n ≤ length xs → length (take n xs) ≡ n
length_take zero xs h = refl
length_take (suc n) [] h = absurd (omega arith)
length_take (suc n) (x ∷ xs) h = ap suc (length_take n xs (omega arith))

length_zip : (xs ys : List ℕ) (n : ℕ) → length xs ≡ n → length ys ≡ n → length (zip xs ys) ≡ n
length_zip [] ys n h k = h
length_zip (x ∷ xs) [] n h k = absurd (omega arith)
length_zip (x ∷ xs) (y ∷ ys) zero h k = absurd (omega arith)
length_zip (x ∷ xs) (y ∷ ys) (suc n) h k = ap suc (length_zip xs ys n (omega arith) (omega arith))

pub length_run : (ms : List Bool) (from count : ℕ) → from + count ≤ visible_count ms → length (take count (drop from (visible_places ms))) ≡ count
length_run ms from count h =
    let all : length (visible_places ms) ≡ visible_count ms = length-places_from 0 ms in
    let rest = length_drop from (visible_places ms) in
    length_take count (drop from (visible_places ms)) (omega (arith, all, rest, h))

pub run_up : (ms : List Bool) (from count : ℕ) → AllPairs (λ p q. p < q) (take count (drop from (visible_places ms)))
run_up ms from count = pairs_take (λ p q. p < q) count (drop from (visible_places ms)) (pairs_drop (λ p q. p < q) from (visible_places ms) (visible_up ms))

length_pairs : (ms : List Bool) (from to count : ℕ) → from + count ≤ visible_count ms → to + count ≤ visible_count ms → length (line_pairs ms from to count) ≡ count
length_pairs ms from to count h k = length_zip (take count (drop from (visible_places ms))) (take count (drop to (visible_places ms))) count (length_run ms from count h) (length_run ms to count k)

-- ---- by identity and by positions
module _ (X : IdSheet) where
  grid_at : (rs : List AxisLine) (cs : List AxisLine) (p q : ℕ) → p < length rs → q < length cs →
      slice_index_or (slice_index_or (map (λ (r : AxisLine). map (λ (c : AxisLine). locate_content X (X.cells r.rec c.rec)) cs) rs) p []) q content.Empty
      ≡ locate_content X (X.cells (slice_index_or rs p no_line).rec (slice_index_or cs q no_line).rec)
  grid_at [] cs p q h k = absurd (omega arith)
  grid_at (r ∷ rs) cs (suc p) q h k = grid_at rs cs p q (omega arith) k
  grid_at (r ∷ rs) cs zero q h k = row_at cs q k
    where
      row_at : (cs : List AxisLine) (q : ℕ) → q < length cs → slice_index_or (map (λ (c : AxisLine). locate_content X (X.cells r.rec c.rec)) cs) q content.Empty ≡ locate_content X (X.cells r.rec (slice_index_or cs q no_line).rec)
      row_at [] q k = absurd (omega arith)
      row_at (c ∷ cs) zero k = refl
      row_at (c ∷ cs) (suc q) k = row_at cs q (omega arith)

  content_by : (from : Span) (to : Spot) (x : IdContent) → content_copied X (first_cell from) to x ≡ content_shifted (placed X) (row_shift from to) (col_shift from to) (locate_content X x)
  content_by from to blank = refl
  content_by from to (number z) = refl
  content_by from to (text t) = refl
  content_by from to (formula t) =
      ap content.Formula (sym (remap_renamed (locate_cell X) (locate_range X) (cell_shifted (placed X) (row_shift from to) (col_shift from to)) (range_shifted (placed X) (row_shift from to) (col_shift from to)) t))

  length_marks : {A : Type 0} (f : AxisLine → A) (ls : List AxisLine) → length (map f ls) ≡ length ls
  length_marks f [] = refl
  length_marks f (l ∷ ls) = ap suc (length_marks f ls)

  module _ (from : Span) (to : Spot) where
    abbrev P : PlacedSheet
    P = placed X

    abbrev by_id : ℕ × ℕ → ℕ × ℕ → Put
    by_id row col = record { row = row.1; col = col.1; content = content_copied X (first_cell from) to (X.cells (rec_at X.rows row.0) (rec_at X.cols col.0)) }

    abbrev by_place : ℕ × ℕ → ℕ × ℕ → Put
    by_place row col = put_shifted P (row_shift from to) (col_shift from to) row col

    put_by : (row col : ℕ × ℕ) → row.0 < length P.rows → col.0 < length P.cols → by_id row col ≡ by_place row col
    put_by row col h k =
        let h' : row.0 < length X.rows.lines = let l = length_marks (λ l. X.rows.dead l.rec) X.rows.lines in omega (arith, h, l) in
        let k' : col.0 < length X.cols.lines = let l = length_marks (λ l. X.cols.dead l.rec) X.cols.lines in omega (arith, k, l) in
        ap (λ (c : Content). record { row = row.1; col = col.1; content = c })
        (content_by from to (X.cells (rec_at X.rows row.0) (rec_at X.cols col.0))
        ∙ ap (content_shifted P (row_shift from to) (col_shift from to)) (sym (grid_at X.rows.lines X.cols.lines row.0 col.0 h' k')))

    row_by : (row : ℕ × ℕ) (cs : List (ℕ × ℕ)) → row.0 < length P.rows → All (λ m. (m.0 < length P.cols) × (m.1 < length P.cols)) cs → map (by_id row) cs ≡ map (by_place row) cs
    row_by row [] h f = refl
    row_by row (c ∷ cs) h f =
        λ i. put_by row c h (All-head (λ m. (m.0 < length P.cols) × (m.1 < length P.cols)) c cs f).0 i ∷ row_by row cs h (All-tail (λ m. (m.0 < length P.cols) × (m.1 < length P.cols)) c cs f) i

    rows_by : (rs cs : List (ℕ × ℕ)) → All (λ m. (m.0 < length P.rows) × (m.1 < length P.rows)) rs → All (λ m. (m.0 < length P.cols) × (m.1 < length P.cols)) cs →
        flat_map (λ row. map (by_id row) cs) rs ≡ flat_map (λ row. map (by_place row) cs) rs
    rows_by [] cs f g = refl
    rows_by (r ∷ rs) cs f g =
        λ i. row_by r cs (All-head (λ m. (m.0 < length P.rows) × (m.1 < length P.rows)) r rs f).0 g i ++ rows_by rs cs (All-tail (λ m. (m.0 < length P.rows) × (m.1 < length P.rows)) r rs f) g i

    puts_same : copied_puts X from to ≡ puts_by P from to
    puts_same = rows_by (line_pairs P.rows from.top to.row (line_count from.top from.bottom)) (line_pairs P.cols from.left to.col (line_count from.left from.right))
        (pairs_inside P.rows from.top to.row (line_count from.top from.bottom)) (pairs_inside P.cols from.left to.col (line_count from.left from.right))

    pub copy_same : copy_on X from to ≡ copy_by P from to
    copy_same = ap answer puts_same
      where
        answer : List Put → Result Intent EditErr
        answer puts =
            cond (are_seen P.rows from.top from.bottom to.row && are_seen P.cols from.left from.right to.col)
            (cond (nat_lt 128 (line_count from.top from.bottom * line_count from.left from.right)) (Err (fault.CopyLarge (line_count from.top from.bottom * line_count from.left from.right))) (unless_heavy (intent.Write puts)))
            (Err fault.OutOfSheet)

-- ---- references that are copied are inside
module _ (P : PlacedSheet) (rows cols : Shift) where
  line_inside : (ms : List Bool) (from to : ℕ) (abs : Bool) (o : Option ℕ) (p : ℕ) → option_and_then (line_shifted ms from to abs) o ≡ Some p → p < length ms
  line_inside ms from to abs None p e = absurd (cc)
  line_inside ms from to abs (Some v) p e = by_index (shifted_index from to abs v) e
    where
      by_index : (w : Option ℕ) → option_and_then (λ w. slice_get (visible_places ms) w) w ≡ Some p → p < length ms
      by_index None e = absurd (cc)
      by_index (Some w) e = visible_below ms w p e

  one_inside : (ms : List Bool) (from to : ℕ) (abs : Bool) (v p : ℕ) → line_shifted ms from to abs v ≡ Some p → p < length ms
  one_inside ms from to abs v p e = line_inside ms from to abs (Some v) p e

  ends_inside : (ms : List Bool) (from to : ℕ) (f l : Bool) (o : Option (ℕ × ℕ)) (m : ℕ × ℕ) → option_and_then (ends_shifted ms from to f l) o ≡ Some m → (m.0 < length ms) × (m.1 < length ms)
  ends_inside ms from to f l None m e = absurd (cc)
  ends_inside ms from to f l (Some seen) m e = by_ends (line_shifted ms from to f seen.0) (line_shifted ms from to l seen.1) refl refl e
    where
      by_ends : (a b : Option ℕ) → line_shifted ms from to f seen.0 ≡ a → line_shifted ms from to l seen.1 ≡ b → ◌≡◌ {A = Option (ℕ × ℕ)} (option_and_then (λ first. option_map (λ last. (first, last)) b) a) (Some m) → (m.0 < length ms) × (m.1 < length ms)
      by_ends None b ea eb e = absurd (cc)
      by_ends (Some p) None ea eb e = absurd (cc)
      by_ends (Some p) (Some q) ea eb e =
          let same : ◌≡◌ {A = ℕ × ℕ} (p, q) m = cc in
          subst (λ (m : ℕ × ℕ). (m.0 < length ms) × (m.1 < length ms)) same (one_inside ms from to f seen.0 p ea, one_inside ms from to l seen.1 q eb)

  cell_inside : (row_abs col_abs : Bool) (a b : Option ℕ) (d : Spot) → ((p : ℕ) → a ≡ Some p → p < length P.rows) → ((q : ℕ) → b ≡ Some q → q < length P.cols) →
      option_map (cell_reference row_abs col_abs) (both_of a b) ≡ Some d → CellFits (placed_size P) d
  cell_inside row_abs col_abs None b d f g e = absurd (cc)
  cell_inside row_abs col_abs (Some p) None d f g e = absurd (cc)
  cell_inside row_abs col_abs (Some p) (Some q) d f g e =
      let same : cell_reference row_abs col_abs (p, q) ≡ d = cc in
      subst (λ (x : Spot). CellFits (placed_size P) x) same (f p refl, g q refl)

  range_inside : (t l b r : Bool) (u v : Option (ℕ × ℕ)) (d : Span) → ((m : ℕ × ℕ) → u ≡ Some m → (m.0 < length P.rows) × (m.1 < length P.rows)) → ((m : ℕ × ℕ) → v ≡ Some m → (m.0 < length P.cols) × (m.1 < length P.cols)) →
      option_map (range_reference t l b r) (both_of u v) ≡ Some d → RangeFits (placed_size P) d
  range_inside t l b r None v d f g e = absurd (cc)
  range_inside t l b r (Some m) None d f g e = absurd (cc)
  range_inside t l b r (Some m) (Some n) d f g e =
      let same : range_reference t l b r (m, n) ≡ d = cc in
      let row = f m refl in
      let col = g n refl in
      subst (λ (x : Span). RangeFits (placed_size P) x) same (between_inside P (cell_reference t l (m.0, n.0)) (cell_reference b r (m.1, n.1)) (row.0, col.0) (row.1, col.1))

  -- ---- what is copied can be spelled
  ordered : (a b : ℕ) → cond (nat_le a b) a b ≤ cond (nat_le a b) b a
  ordered a b = by_order (nat_le a b) refl
    where
      by_order : (t : Bool) → nat_le a b ≡ t → cond t a b ≤ cond t b a
      by_order true h = grind (arith, nat_tests)
      by_order false h = grind (arith, nat_tests)

  range_ordered : (t l b r : Bool) (u v : Option (ℕ × ℕ)) (d : Span) → option_map (range_reference t l b r) (both_of u v) ≡ Some d → (d.top ≤ d.bottom) × (d.left ≤ d.right)
  range_ordered t l b r None v d e = absurd (cc)
  range_ordered t l b r (Some m) None d e = absurd (cc)
  range_ordered t l b r (Some m) (Some n) d e =
      let same : range_reference t l b r (m, n) ≡ d = cc in
      subst (λ (x : Span). (x.top ≤ x.bottom) × (x.left ≤ x.right)) same (ordered m.0 m.1, ordered n.0 n.1)

  cell_formed : (o : Option Spot) → length P.rows ≤ 16000 → length P.cols ≤ 16000 → ((d : Spot) → o ≡ Some d → CellFits (placed_size P) d) → IsWellFormed (cell_or_lost {C = Spot} {R = Span} o)
  cell_formed None few narrow f = tt
  cell_formed (Some d) few narrow f = let inside = f d refl in (let h = inside.0 in omega (arith, h, few), let h = inside.1 in omega (arith, h, narrow))

  range_formed : (o : Option Span) → length P.rows ≤ 16000 → length P.cols ≤ 16000 → ((d : Span) → o ≡ Some d → RangeFits (placed_size P) d) → ((d : Span) → o ≡ Some d → (d.top ≤ d.bottom) × (d.left ≤ d.right)) →
      IsWellFormed (range_or_lost {C = Spot} {R = Span} o)
  range_formed None few narrow f g = tt
  range_formed (Some d) few narrow f g =
      let inside = f d refl in
      let order = g d refl in
      record {
        first = (let h = inside.0.0 in omega (arith, h, few), let h = inside.0.1 in omega (arith, h, narrow));
        last = (let h = inside.1.0 in omega (arith, h, few), let h = inside.1.1 in omega (arith, h, narrow));
        rows = order.0;
        cols = order.1;
      }

  cell_within : (s d : Spot) → cell_shifted P rows cols s ≡ Some d → CellFits (placed_size P) d
  cell_within s d e =
      cell_inside s.abs_row s.abs_col (option_and_then (line_shifted P.rows rows.from rows.to s.abs_row) (visible_of P.rows s.row)) (option_and_then (line_shifted P.cols cols.from cols.to s.abs_col) (visible_of P.cols s.col)) d
      (λ p h. line_inside P.rows rows.from rows.to s.abs_row (visible_of P.rows s.row) p h) (λ p h. line_inside P.cols cols.from cols.to s.abs_col (visible_of P.cols s.col) p h) e

  range_within : (s d : Span) → range_shifted P rows cols s ≡ Some d → RangeFits (placed_size P) d
  range_within s d e =
      range_inside s.abs_top s.abs_left s.abs_bottom s.abs_right (option_and_then (ends_shifted P.rows rows.from rows.to s.abs_top s.abs_bottom) (span_of P.rows s.top s.bottom)) (option_and_then (ends_shifted P.cols cols.from cols.to s.abs_left s.abs_right) (span_of P.cols s.left s.right)) d
      (λ m h. ends_inside P.rows rows.from rows.to s.abs_top s.abs_bottom (span_of P.rows s.top s.bottom) m h) (λ m h. ends_inside P.cols cols.from cols.to s.abs_left s.abs_right (span_of P.cols s.left s.right) m h) e

  content_inside : (c : Content) → ContentFits (placed_size P) (content_shifted P rows cols c)
  content_inside content.Empty = tt
  content_inside (content.Num z) = tt
  content_inside (content.Text t) = tt
  content_inside (content.Formula t) = images_each (CellFits (placed_size P)) (RangeFits (placed_size P)) (cell_shifted P rows cols) (range_shifted P rows cols) cell_within range_within t

  pub cells_formed : length P.rows ≤ 16000 → length P.cols ≤ 16000 → (s : Spot) → IsWellFormed (cell_or_lost {C = Spot} {R = Span} (cell_shifted P rows cols s))
  cells_formed few narrow s = cell_formed (cell_shifted P rows cols s) few narrow (cell_within s)

  pub ranges_formed : length P.rows ≤ 16000 → length P.cols ≤ 16000 → (s : Span) → IsWellFormed (range_or_lost {C = Spot} {R = Span} (range_shifted P rows cols s))
  ranges_formed few narrow s =
      range_formed (range_shifted P rows cols s) few narrow (range_within s)
      (λ d e. range_ordered s.abs_top s.abs_left s.abs_bottom s.abs_right (option_and_then (ends_shifted P.rows rows.from rows.to s.abs_top s.abs_bottom) (span_of P.rows s.top s.bottom)) (option_and_then (ends_shifted P.cols cols.from cols.to s.abs_left s.abs_right) (span_of P.cols s.left s.right)) d e)

  -- ---- and so are all cells, each written once
  abbrev here : ℕ × ℕ → ℕ × ℕ → Put
  here row col = put_shifted P rows cols row col

  other_number : (m n : ℕ) → m < n → nat_eq n m ≡ false
  other_number m n h = grind (arith, nat_tests)

  and_false : (a : Bool) → a && false ≡ false
  and_false true = refl
  and_false false = refl

  not_in_row : (row : ℕ × ℕ) (cs : List (ℕ × ℕ)) (q : Put) → All (λ m. q.col < m.1) cs → writes_cell (map (here row) cs) q ≡ false
  not_in_row row [] q f = refl
  not_in_row row (c ∷ cs) q f =
      (λ i. (nat_eq row.1 q.row && other_number q.col c.1 (All-head (λ m. q.col < m.1) c cs f) i) || not_in_row row cs q (All-tail (λ m. q.col < m.1) c cs f) i) ∙ ap (λ (t : Bool). t || false) (and_false (nat_eq row.1 q.row))

  not_in_other : (row : ℕ × ℕ) (cs : List (ℕ × ℕ)) (q : Put) → q.row < row.1 → writes_cell (map (here row) cs) q ≡ false
  not_in_other row [] q h = refl
  not_in_other row (c ∷ cs) q h = λ i. (other_number q.row row.1 h i && nat_eq c.1 q.col) || not_in_other row cs q h i

  not_in_later : (rs cs : List (ℕ × ℕ)) (q : Put) → All (λ m. q.row < m.1) rs → writes_cell (puts_shifted P rows cols rs cs) q ≡ false
  not_in_later [] cs q f = refl
  not_in_later (r ∷ rs) cs q f =
      list_any-append (λ p. same_cell p q) (map (here r) cs) (puts_shifted P rows cols rs cs)
      ∙ (λ i. not_in_other r cs q (All-head (λ m. q.row < m.1) r rs f) i || not_in_later rs cs q (All-tail (λ m. q.row < m.1) r rs f) i)

  row_fits : (row : ℕ × ℕ) (cs : List (ℕ × ℕ)) (more : List Put) → row.1 < length P.rows → All (λ m. (m.0 < length P.cols) × (m.1 < length P.cols)) cs → AllPairs (λ m n. m.1 < n.1) cs →
      ((q : Put) → q.row ≡ row.1 → writes_cell more q ≡ false) → PutsFit (placed_size P) more → PutsFit (placed_size P) (map (here row) cs ++ more)
  row_fits row [] more h f up apart fits = fits
  row_fits row (c ∷ cs) more h f up apart fits = (
    h,
    (All-head (λ m. (m.0 < length P.cols) × (m.1 < length P.cols)) c cs f).1,
    content_inside (cell_at P row.0 c.0),
    list_any-append (λ p. same_cell p (here row c)) (map (here row) cs) more
        ∙ (λ i. not_in_row row cs (here row c) (pairs_head (λ m n. m.1 < n.1) c cs up) i || apart (here row c) refl i),
    row_fits row cs more h (All-tail (λ m. (m.0 < length P.cols) × (m.1 < length P.cols)) c cs f) (pairs_tail (λ m n. m.1 < n.1) c cs up) apart fits,
  )

  rows_fit : (rs cs : List (ℕ × ℕ)) → All (λ m. (m.0 < length P.rows) × (m.1 < length P.rows)) rs → AllPairs (λ m n. m.1 < n.1) rs → All (λ m. (m.0 < length P.cols) × (m.1 < length P.cols)) cs → AllPairs (λ m n. m.1 < n.1) cs →
      PutsFit (placed_size P) (puts_shifted P rows cols rs cs)
  rows_fit [] cs f up g right = tt
  rows_fit (r ∷ rs) cs f up g right =
      row_fits r cs (puts_shifted P rows cols rs cs) (All-head (λ m. (m.0 < length P.rows) × (m.1 < length P.rows)) r rs f).1 g right
      (λ q e. not_in_later rs cs q (All-weaker (λ m. r.1 < m.1) (λ m. q.row < m.1) (λ m h. omega (arith, h, e)) rs (pairs_head (λ m n. m.1 < n.1) r rs up)))
      (rows_fit rs cs (All-tail (λ m. (m.0 < length P.rows) × (m.1 < length P.rows)) r rs f) (pairs_tail (λ m n. m.1 < n.1) r rs up) g right)

  length_row : (row : ℕ × ℕ) (cs : List (ℕ × ℕ)) → length (map (here row) cs) ≡ length cs
  length_row row [] = refl
  length_row row (c ∷ cs) = ap suc (length_row row cs)

  length_puts : (rs cs : List (ℕ × ℕ)) → length (puts_shifted P rows cols rs cs) ≡ length rs * length cs
  length_puts [] cs = omega arith
  length_puts (r ∷ rs) cs =
      let one : length (puts_shifted P rows cols (r ∷ rs) cs) ≡ length cs + length rs * length cs = length-append (map (here r) cs) (puts_shifted P rows cols rs cs) ∙ (λ i. length_row r cs i + length_puts rs cs i) in
      one ∙ next (length rs) (length cs)
    where
      next : (m n : ℕ) → n + m * n ≡ suc m * n
      next m n = omega arith

-- ---- a copy fits
both_true : (a b : Bool) → a && b ≡ true → (a ≡ true) × (b ≡ true)
both_true true b h = (refl, h)
both_true false b h = absurd (cc)

pub seen_parts : (ms : List Bool) (first last to : ℕ) → are_seen ms first last to ≡ true → (last < visible_count ms) × (to + line_count first last ≤ visible_count ms)
seen_parts ms first last to h =
    let parts = both_true (nat_lt last (visible_count ms)) (nat_le (to + line_count first last) (visible_count ms)) h in
    (below last (visible_count ms) parts.0, at_most (to + line_count first last) (visible_count ms) parts.1)
  where
    below : (m n : ℕ) → nat_lt m n ≡ true → m < n
    below m n h = grind (arith, nat_tests)

    at_most : (m n : ℕ) → nat_le m n ≡ true → m ≤ n
    at_most m n h = grind (arith, nat_tests)

pub seen_both : (P : PlacedSheet) (from : Span) (to : Spot) → are_seen P.rows from.top from.bottom to.row && are_seen P.cols from.left from.right to.col ≡ true →
    (are_seen P.rows from.top from.bottom to.row ≡ true) × (are_seen P.cols from.left from.right to.col ≡ true)
seen_both P from to h = both_true (are_seen P.rows from.top from.bottom to.row) (are_seen P.cols from.left from.right to.col) h

module _ (P : PlacedSheet) (from : Span) (to : Spot) (down : from.top ≤ from.bottom) (right : from.left ≤ from.right) where
  abbrev height : ℕ
  height = line_count from.top from.bottom

  abbrev width : ℕ
  width = line_count from.left from.right

  product_above : (m n : ℕ) → 0 < m → 0 < n → 0 < m * n
  product_above zero n h k = absurd (omega arith)
  product_above (suc m) zero h k = absurd (omega arith)
  product_above (suc m) (suc n) h k = omega arith

  puts_fit : are_seen P.rows from.top from.bottom to.row && are_seen P.cols from.left from.right to.col ≡ true → nat_lt 128 (height * width) ≡ false → IntentFits (placed_size P) (intent.Write (puts_by P from to))
  puts_fit seen few =
      let parts = seen_both P from to seen in
      let rows = seen_parts P.rows from.top from.bottom to.row parts.0 in
      let cols = seen_parts P.cols from.left from.right to.col parts.1 in
      let tall : length (line_pairs P.rows from.top to.row height) ≡ height = length_pairs P.rows from.top to.row height (let b = rows.0 in omega (arith, b)) rows.1 in
      let wide : length (line_pairs P.cols from.left to.col width) ≡ width = length_pairs P.cols from.left to.col width (let b = cols.0 in omega (arith, b)) cols.1 in
      let count : length (puts_by P from to) ≡ height * width = length_puts P (row_shift from to) (col_shift from to) (line_pairs P.rows from.top to.row height) (line_pairs P.cols from.left to.col width) ∙ (λ i. tall i * wide i) in
      let some : 0 < height * width = product_above height width (omega arith) (omega arith) in
      let most : height * width ≤ 128 = not_above (height * width) few in (
        omega (arith, count, some),
        omega (arith, count, most),
        rows_fit P (row_shift from to) (col_shift from to) (line_pairs P.rows from.top to.row height) (line_pairs P.cols from.left to.col width)
            (pairs_inside P.rows from.top to.row height) (targets_up P.rows from.top to.row height) (pairs_inside P.cols from.left to.col width) (targets_up P.cols from.left to.col width),
      )
    where
      not_above : (n : ℕ) → nat_lt 128 n ≡ false → n ≤ 128
      not_above n h = grind (arith, nat_tests)

  pub copy-fits : (op : Intent) → copy_by P from to ≡ Ok op → IntentFits (placed_size P) op
  copy-fits op e = by_tests (are_seen P.rows from.top from.bottom to.row && are_seen P.cols from.left from.right to.col) (nat_lt 128 (height * width)) refl refl e
    where
      by_tests : (s l : Bool) → are_seen P.rows from.top from.bottom to.row && are_seen P.cols from.left from.right to.col ≡ s → nat_lt 128 (height * width) ≡ l →
          ◌≡◌ {A = Result Intent EditErr} (cond s (cond l (Err (fault.CopyLarge (height * width))) (unless_heavy (intent.Write (puts_by P from to)))) (Err fault.OutOfSheet)) (Ok op) → IntentFits (placed_size P) op
      by_tests false l es el e = absurd (cc)
      by_tests true true es el e = absurd (cc)
      by_tests true false es el e = light_fits P (intent.Write (puts_by P from to)) op e (puts_fit es el)

  -- what the code answers
  pub copy_outside : are_seen P.rows from.top from.bottom to.row && are_seen P.cols from.left from.right to.col ≡ false → copy_by P from to ≡ Err fault.OutOfSheet
  copy_outside e = ap (λ (s : Bool). cond s (cond (nat_lt 128 (height * width)) (Err (fault.CopyLarge (height * width))) (unless_heavy (intent.Write (puts_by P from to)))) (Err fault.OutOfSheet)) e

  pub copy_large : (n : ℕ) → are_seen P.rows from.top from.bottom to.row && are_seen P.cols from.left from.right to.col ≡ true → n ≡ height * width → 128 < n → copy_by P from to ≡ Err (fault.CopyLarge n)
  copy_large n e same lt =
      ap (λ (s : Bool). cond s (cond (nat_lt 128 (height * width)) (Err (fault.CopyLarge (height * width))) (unless_heavy (intent.Write (puts_by P from to)))) (Err fault.OutOfSheet)) e
      ∙ (ap (λ (l : Bool). cond l (Err (fault.CopyLarge (height * width))) (unless_heavy (intent.Write (puts_by P from to)))) (above (height * width) (subst (λ (m : ℕ). 128 < m) same lt)) ∙ ap (λ (m : ℕ). Err (fault.CopyLarge m)) (sym same))
    where
      above : (m : ℕ) → 128 < m → nat_lt 128 m ≡ true
      above m h = grind (arith, nat_tests)

  pub copy_light : (n : ℕ) → are_seen P.rows from.top from.bottom to.row && are_seen P.cols from.left from.right to.col ≡ true → n ≡ height * width → n ≤ 128 → copy_by P from to ≡ unless_heavy (intent.Write (puts_by P from to))
  copy_light n e same le =
      ap (λ (s : Bool). cond s (cond (nat_lt 128 (height * width)) (Err (fault.CopyLarge (height * width))) (unless_heavy (intent.Write (puts_by P from to)))) (Err fault.OutOfSheet)) e
      ∙ ap (λ (l : Bool). cond l (Err (fault.CopyLarge (height * width))) (unless_heavy (intent.Write (puts_by P from to)))) (within (height * width) (subst (λ (m : ℕ). m ≤ 128) same le))
    where
      within : (m : ℕ) → m ≤ 128 → nat_lt 128 m ≡ false
      within m h = grind (arith, nat_tests)

-- two numbers of at most 16,000 multiplied
pub product_few : (a b : ℕ) → a ≤ 16000 → b ≤ 16000 → a * b ≤ 256000000
product_few a b h k = let m : a * b ≤ a * 16000 = mul-le-mul_left a k in omega (arith, m, h)

pub sources_inside : (ms : List Bool) (from to count : ℕ) → All (λ m. m.0 < length ms) (line_pairs ms from to count)
sources_inside ms from to count = All-weaker (λ m. (m.0 < length ms) × (m.1 < length ms)) (λ m. m.0 < length ms) (λ m h. h.0) (line_pairs ms from to count) (pairs_inside ms from to count)
