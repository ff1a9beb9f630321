-- Where the numbers of stored references lead, and the cell that a stored content is.
use Rattle.std.proofs.Common.{◌≡◌, ℕ, suc, ◌<◌, ◌≤◌, Bool, true, false, cond, List, [], ◌∷◌, length, map, refl, ap, sym, ◌∙◌, arith, Option, Some, None}
use Rattle.std.specs.Prelude.{min, max, nat_eq, nat_le, nat_lt, slice_get, slice_index, slice_index_or, unwrap_or, IfSome, IfNone}
use Rattle.std.proofs.lemmas.Bool.Decides.{nat_tests}
use Rattle.std.proofs.lemmas.List.{length-map}
use Rattle.ss_base.specs.declared.types.Spot.{Spot}
use Rattle.ss_base.specs.declared.types.Span.{Span}
use Rattle.formula_tree.specs.Tree.{Tree}
use Rattle.marked_lines.specs.Marks.{visible_places}
use Rattle.sheet_ops.specs.declared.content.Content.{Content}
use Rattle.sheet_ops.specs.declared.content.Content.TheVariants as content
use Rattle.sheet_ops.specs.LineIds.{LineId, id_eq, opening_id}
use Rattle.sheet_ops.specs.Lines.{AxisLine, Axis, no_line, place_where, rec_place, slot_place}
use Rattle.sheet_ops.specs.Identity.{IdContent, IdSheet, blank, number, text, formula}
use Rattle.sheet_ops.specs.Naming.{locate_cell, locate_range, locate_content}
use Rattle.sheet_ops.specs.Placed.{cell_at}
use Rattle.sheet_ops.proofs.Renamed.{rename_rename}
use Rattle.sheet_ops.proofs.Written.{index_map}
use Rattle.sheet_grid.specs.Cells.{formula_of}
use Rattle.sheet_grid.specs.Kept.{NumberedAxis, axis, cell_meant, range_meant, content_meant, by_numbers, IsSheet}
use Rattle.sheet_grid.specs.Numbering.{IsAxis, place_of_rec, place_of_slot, lines_alone, content_placed}
use Rattle.sheet_grid.specs.Values.{NumberedSheet, IsNumberedSheet, kept_in, placed_in, stored_at}
use Rattle.sheet_grid.proofs.Meanings.{slot_there, rec_there, length-lines_of}
use Rattle.sheet_graph.specs.Areas.{area_at, area_over}
use Rattle.sheet_graph.specs.Graphs.{is_formula_content, content_at, content_seen}
use Rattle.sheet_graph.specs.Placing.{tree_placed}

-- ---- numbers
-- what no line has stands behind the last one
nowhere : (test : AxisLine → Bool) (ls : List AxisLine) → ((p : ℕ) → p < length ls → test (slice_index_or ls p no_line) ≡ false) → place_where test ls ≡ length ls
nowhere test [] h = refl
nowhere test (l ∷ ls) h = rw (h 0 (omega arith)) (ap suc (nowhere test ls (λ p k. h (suc p) (omega arith))))

other_id : (a b : ℕ) → a < b → id_eq (opening_id a) (opening_id b) ≡ false
other_id a b h = apart a b h
  where
    apart : (m n : ℕ) → m < n → nat_eq m n ≡ false
    apart m n j = grind (arith, nat_tests)

module _ (k : NumberedAxis) (ax : IsAxis k) (n : ℕ) where
  long : length (axis k).lines ≡ length k.slots
  long = length-lines_of k.slots k.recs ax.2.as_many

  no_rec : length k.slots ≤ n → rec_place (axis k) (opening_id n) ≡ length k.slots
  no_rec h = nowhere (λ l. id_eq l.rec (opening_id n)) (axis k).lines away ∙ long
    where
      away : (p : ℕ) → p < length (axis k).lines → id_eq (slice_index_or (axis k).lines p no_line).rec (opening_id n) ≡ false
      away p i =
          let l = long in
          let e = ax.2.as_many in
          let here : p < length k.slots = omega (arith, i, l) in
          let b = ax.2.recs.back p (omega (arith, here, e)) in
          ap (λ (a : LineId). id_eq a (opening_id n)) (rec_there k.slots k.recs p e here) ∙ other_id (slice_index k.recs p) n (omega (arith, b.0, e, h))

  no_slot : length k.slots ≤ n → slot_place (axis k) (opening_id n) ≡ length k.slots
  no_slot h = nowhere (λ l. id_eq l.slot (opening_id n)) (axis k).lines away ∙ long
    where
      away : (p : ℕ) → p < length (axis k).lines → id_eq (slice_index_or (axis k).lines p no_line).slot (opening_id n) ≡ false
      away p i =
          let l = long in
          let e = ax.2.as_many in
          let here : p < length k.slots = omega (arith, i, l) in
          let b = ax.2.slots.back p here in
          ap (λ (a : LineId). id_eq a (opening_id n)) (slot_there k.slots k.recs p e here) ∙ other_id (slice_index k.slots p) n (omega (arith, b.0, h))

  pub rec_found : unwrap_or (place_of_rec k n) (length k.slots) ≡ rec_place (axis k) (opening_id n)
  rec_found = by_test (nat_lt n (length k.slots)) refl
    where
      by_test : (t : Bool) → nat_lt n (length k.slots) ≡ t → unwrap_or (cond t (Some (rec_place (axis k) (opening_id n))) None) (length k.slots) ≡ rec_place (axis k) (opening_id n)
      by_test true e = refl
      by_test false e = sym (no_rec (grind (arith, nat_tests)))

  pub slot_found : unwrap_or (place_of_slot k n) (length k.slots) ≡ slot_place (axis k) (opening_id n)
  slot_found = by_test (nat_lt n (length k.slots)) refl
    where
      by_test : (t : Bool) → nat_lt n (length k.slots) ≡ t → unwrap_or (cond t (Some (slot_place (axis k) (opening_id n))) None) (length k.slots) ≡ slot_place (axis k) (opening_id n)
      by_test true e = refl
      by_test false e = sym (no_slot (grind (arith, nat_tests)))

-- the two ends of a range by where they stand
module _ (place : LineId → ℕ) (a b : LineId) where
  pub first_end : min (place a) (place b) ≡ place (cond (nat_le (place a) (place b)) a b)
  first_end = by_test (nat_le (place a) (place b)) refl
    where
      by_test : (t : Bool) → nat_le (place a) (place b) ≡ t → min (place a) (place b) ≡ place (cond t a b)
      by_test true e = let l : place a ≤ place b = grind (arith, nat_tests) in omega (arith, l)
      by_test false e = let l : place b < place a = grind (arith, nat_tests) in omega (arith, l)

  pub last_end : max (place a) (place b) ≡ place (cond (nat_le (place a) (place b)) b a)
  last_end = by_test (nat_le (place a) (place b)) refl
    where
      by_test : (t : Bool) → nat_le (place a) (place b) ≡ t → max (place a) (place b) ≡ place (cond t b a)
      by_test true e = let l : place a ≤ place b = grind (arith, nat_tests) in omega (arith, l)
      by_test false e = let l : place b < place a = grind (arith, nat_tests) in omega (arith, l)

-- ---- cells
-- where references stand has nothing to do with what the cells hold
locate_beside : (R C : Axis) (f g : LineId → LineId → IdContent) (c : IdContent) → locate_content (record { rows = R; cols = C; cells = f }) c ≡ locate_content (record { rows = R; cols = C; cells = g }) c
locate_beside R C f g blank = refl
locate_beside R C f g (number z) = refl
locate_beside R C f g (text t) = refl
locate_beside R C f g (formula t) = refl

module _ (V : NumberedSheet) (whole : IsNumberedSheet V) where
  pub rows_axis : IsAxis V.rows
  rows_axis = by_kept whole.kept
    where
      by_kept : IsSheet (kept_in V) → IsAxis V.rows
      by_kept (rs, rr, cs, cr, ok) = (rs, rr, ok.rows)

  pub cols_axis : IsAxis V.cols
  cols_axis = by_kept whole.kept
    where
      by_kept : IsSheet (kept_in V) → IsAxis V.cols
      by_kept (rs, rr, cs, cr, ok) = (cs, cr, ok.cols)

  abbrev X : IdSheet
  X = by_numbers (kept_in V)

  module _ (p q : ℕ) (h : p < length (placed_in V).rows) (j : q < length (placed_in V).cols) where
    abbrev stored : Content
    stored = stored_at V.cells (slice_index V.rows.recs p) (slice_index V.cols.recs q)

    cell_stored : cell_at (placed_in V) p q ≡ content_placed V.rows V.cols stored
    cell_stored =
        let ra = rows_axis.2.as_many in
        let ca = cols_axis.2.as_many in
        let rm = length-map X.rows.lines (λ (l : AxisLine). X.rows.dead l.rec) in
        let cm = length-map X.cols.lines (λ (l : AxisLine). X.cols.dead l.rec) in
        let rn = length-lines_of V.rows.slots V.rows.recs ra in
        let cn = length-lines_of V.cols.slots V.cols.recs ca in
        let rl : p < length X.rows.lines = omega (arith, h, rm) in
        let cl : q < length X.cols.lines = omega (arith, j, cm) in
        ap (λ (cells : List Content). slice_index_or cells q content.Empty) (index_map (λ (k : AxisLine). map (λ (l : AxisLine). locate_content X (X.cells k.rec l.rec)) X.cols.lines) [] X.rows.lines p rl)
        ∙ (index_map (λ (l : AxisLine). locate_content X (X.cells (slice_index_or X.rows.lines p no_line).rec l.rec)) content.Empty X.cols.lines q cl
        ∙ ((λ i. locate_content X (X.cells (rec_there V.rows.slots V.rows.recs p ra (omega (arith, rl, rn)) i) (rec_there V.cols.slots V.cols.recs q ca (omega (arith, cl, cn)) i)))
        ∙ locate_beside (axis V.rows) (axis V.cols) X.cells (lines_alone V.rows V.cols).cells (content_meant (axis V.rows) (axis V.cols) stored)))

    formula_stored : (t : Tree Spot Span) → stored ≡ content.Formula t → cell_at (placed_in V) p q ≡ content.Formula (tree_placed V t)
    formula_stored t e =
        let L = lines_alone V.rows V.cols in
        cell_stored
        ∙ (ap (content_placed V.rows V.cols) e
        ∙ ap content.Formula (rename_rename (cell_meant (axis V.rows) (axis V.cols)) (range_meant (axis V.rows) (axis V.cols)) (locate_cell L) (locate_range L) t))

    none_stored : formula_of stored ≡ None → is_formula_content (cell_at (placed_in V) p q) ≡ false
    none_stored e = ap is_formula_content cell_stored ∙ by_content stored e
      where
        by_content : (c : Content) → formula_of c ≡ None → is_formula_content (content_placed V.rows V.cols c) ≡ false
        by_content content.Empty n = refl
        by_content (content.Num z) n = refl
        by_content (content.Text t) n = refl
        by_content (content.Formula t) n = absurd (let e : Some t ≡ None = n in cc)

  -- what is stored for a visible cell is seen there
  module _ (row col p q : ℕ) (e : Some p ≡ slice_get (visible_places (placed_in V).rows) row) (f : Some q ≡ slice_get (visible_places (placed_in V).cols) col) (h : p < length (placed_in V).rows) (j : q < length (placed_in V).cols) where
    there : content_seen (placed_in V) row col ≡ cell_at (placed_in V) p q
    there = λ i. content_at (placed_in V) (sym e i) (sym f i)

    pub formula_there : (t : Tree Spot Span) → stored_at V.cells (slice_index V.rows.recs p) (slice_index V.cols.recs q) ≡ content.Formula t → content_seen (placed_in V) row col ≡ content.Formula (tree_placed V t)
    formula_there t s = there ∙ formula_stored p q h j t s

    pub none_there : formula_of (stored_at V.cells (slice_index V.rows.recs p) (slice_index V.cols.recs q)) ≡ None → is_formula_content (content_seen (placed_in V) row col) ≡ false
    none_there s = ap is_formula_content there ∙ none_stored p q h j s

-- ---- areas
pub no_col_area : (o : Option ℕ) → [] ≡ area_at o None
no_col_area None = refl
no_col_area (Some p) = refl

pub no_cols_area : (o : Option (ℕ × ℕ)) → [] ≡ area_over o None
no_cols_area None = refl
no_cols_area (Some s) = refl

-- ---- what holds of what is found
pub each_found : {A : Type 0} {P Q : A → Type 0} (o : Option A) → ((x : A) → P x → Q x) → IfSome o P → IfSome o Q
each_found None f h = h
each_found (Some x) f h = f x h

pub none_found : {A : Type 0} {P Q : Type 0} (o : Option A) → (P → Q) → IfNone o P → IfNone o Q
none_found None f h = f h
none_found (Some x) f h = h
