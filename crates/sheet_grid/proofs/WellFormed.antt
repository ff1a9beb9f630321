-- What is kept is a well-formed sheet by identity, and an insertion leaves what it does by positions.
use Rattle.std.proofs.Common.{◌≡◌, ℕ, ◌<◌, ◌≢◌, Bool, true, false, cond, List, length, get_or, refl, ap, sym, ◌∙◌, subst, arith, All}
use Rattle.std.specs.Prelude.{◌&&◌, nat_eq, map, slice_index}
use Rattle.std.proofs.lemmas.Bool.Decides.{nat_tests}
use Rattle.std.proofs.lemmas.List.{get_or_default}
use Rattle.std.proofs.lemmas.List.Elements.{All-map}
use Rattle.ss_base.specs.declared.types.Spot.{Spot}
use Rattle.ss_base.specs.declared.types.Span.{Span}
use Rattle.sheet_ops.specs.declared.content.Content.{Content}
use Rattle.sheet_ops.specs.declared.content.Content.TheVariants as content
use Rattle.sheet_ops.specs.LineIds.{LineId, opening_id, id_eq}
use Rattle.sheet_ops.specs.Lines.{AxisLine, Axis, slot_place, rec_place}
use Rattle.sheet_ops.specs.Identity.{blank}
use Rattle.sheet_ops.specs.Naming.{locate_cell, locate_range, locate_content}
use Rattle.sheet_ops.specs.Placed.{placed, size_of}
use Rattle.sheet_ops.specs.Fits.{CellFits, RangeFits, ContentFits, IsWellFormedAxis, IsWellFormed, IsNewOn}
use Rattle.sheet_ops.proofs.Ids.{both_true, same_number}
use Rattle.sheet_ops.proofs.Places.{apart_from, avoids_from, has_place, id_at}
use Rattle.sheet_ops.proofs.Renamed.{rename_rename, references_after}
use Rattle.sheet_ops.specs.Fits.{GridFits}
use Rattle.sheet_grid.specs.Numbers.{IsNumbered}
use Rattle.sheet_grid.specs.Kept.{NumberedAxis, KeptSheet, axis, cell_meant, range_meant, content_meant, by_numbers, kept_size, IsKeptAxis, IsKeptSheet}
use Rattle.sheet_grid.proofs.InsertedNumbers.{mark_none}
use Rattle.sheet_grid.proofs.Meanings.{slot_there, rec_there, length-lines_of}

-- each number is below their count
pub numbers_below : (ns ps : List ℕ) → IsNumbered ns ps → All (λ r. r ≢ length ns) ns
numbers_below ns ps ok k d within e = let b = ok.back k within in let same = get_or_default ns k 0 d within in omega (arith, b.0, e, same)

opening_same : (a b : ℕ) → id_eq (opening_id a) (opening_id b) ≡ true → a ≡ b
opening_same a b h = same_number a b (both_true true (nat_eq a b) h).1

opening_other : (a b : ℕ) → a < b → id_eq (opening_id a) (opening_id b) ≡ false
opening_other a b h = apart a b h
  where
    apart : (m n : ℕ) → m < n → nat_eq m n ≡ false
    apart m n j = grind (arith, nat_tests)

module _ (k : NumberedAxis) (sp rp : List ℕ) (ok : IsKeptAxis k sp rp) where
  pub lines_long : length (axis k).lines ≡ length k.slots
  lines_long = length-lines_of k.slots k.recs ok.as_many

  same_place : (ns ps : List ℕ) → IsNumbered ns ps → (p q : ℕ) → p < length ns → q < length ns → slice_index ns p ≡ slice_index ns q → p ≡ q
  same_place ns ps num p q h j e = sym (num.back p h).1 ∙ (ap (slice_index ps) e ∙ (num.back q j).1)

  pub axis_formed : IsWellFormedAxis (axis k)
  axis_formed = record {
    slots = apart_from (λ l. l.slot) (axis k).lines (λ p q h j e.
        let h' : p < length k.slots = omega (arith, h, lines_long) in
        let j' : q < length k.slots = omega (arith, j, lines_long) in
        same_place k.slots sp ok.slots p q h' j' (opening_same (slice_index k.slots p) (slice_index k.slots q) (sym (λ i. id_eq (slot_there k.slots k.recs p ok.as_many h' i) (slot_there k.slots k.recs q ok.as_many j' i)) ∙ e)));
    recs = apart_from (λ l. l.rec) (axis k).lines (λ p q h j e.
        let h' : p < length k.slots = omega (arith, h, lines_long) in
        let j' : q < length k.slots = omega (arith, j, lines_long) in
        same_place k.recs rp ok.recs p q (omega (arith, h', ok.as_many)) (omega (arith, j', ok.as_many)) (opening_same (slice_index k.recs p) (slice_index k.recs q) (sym (λ i. id_eq (rec_there k.slots k.recs p ok.as_many h' i) (rec_there k.slots k.recs q ok.as_many j' i)) ∙ e)));
  }

  pub axis_new : IsNewOn (axis k) (opening_id (length k.slots))
  axis_new = record {
    slots = avoids_from (λ l. l.slot) (axis k).lines (opening_id (length k.slots)) (λ p h.
        let h' : p < length k.slots = omega (arith, h, lines_long) in
        ap (λ (a : LineId). id_eq a (opening_id (length k.slots))) (slot_there k.slots k.recs p ok.as_many h') ∙ opening_other (slice_index k.slots p) (length k.slots) (ok.slots.back p h').0);
    recs = avoids_from (λ l. l.rec) (axis k).lines (opening_id (length k.slots)) (λ p h.
        let h' : p < length k.slots = omega (arith, h, lines_long) in
        ap (λ (a : LineId). id_eq a (opening_id (length k.slots))) (rec_there k.slots k.recs p ok.as_many h')
        ∙ opening_other (slice_index k.recs p) (length k.slots) (let b = ok.recs.back p (omega (arith, h', ok.as_many)) in omega (arith, b.0, ok.as_many)));
    live = mark_none k.recs k.marks (length k.slots) (subst (λ n. All (λ r. r ≢ n) k.recs) ok.as_many (numbers_below k.recs rp ok.recs));
  }

  pub slot_found : (j : ℕ) → j < length k.slots → slot_place (axis k) (opening_id j) < length (axis k).lines
  slot_found j h =
      let f = ok.slots.forth j h in
      let at : id_at (λ l. l.slot) (axis k).lines (slice_index sp j) ≡ opening_id j = slot_there k.slots k.recs (slice_index sp j) ok.as_many f.0 ∙ ap opening_id f.1 in
      subst (λ (a : LineId). slot_place (axis k) a < length (axis k).lines) at (has_place (λ l. l.slot) (axis k).lines (slice_index sp j) (omega (arith, f.0, lines_long)))

  pub rec_found : (j : ℕ) → j < length k.slots → rec_place (axis k) (opening_id j) < length (axis k).lines
  rec_found j h =
      let f = ok.recs.forth j (omega (arith, h, ok.as_many)) in
      let below : slice_index rp j < length k.slots = omega (arith, f.0, ok.as_many) in
      let at : id_at (λ l. l.rec) (axis k).lines (slice_index rp j) ≡ opening_id j = rec_there k.slots k.recs (slice_index rp j) ok.as_many below ∙ ap opening_id f.1 in
      subst (λ (a : LineId). rec_place (axis k) a < length (axis k).lines) at (has_place (λ l. l.rec) (axis k).lines (slice_index rp j) (omega (arith, below, lines_long)))

module _ (k : KeptSheet) (rs rr cs cr : List ℕ) (ok : IsKeptSheet k rs rr cs cr) where
  pub kept_formed : IsWellFormed (by_numbers k)
  kept_formed = record { rows = axis_formed k.rows rs rr ok.rows; cols = axis_formed k.cols cs cr ok.cols }

  either : (t : Bool) (A : Axis) (m n : ℕ) → slot_place A (opening_id m) < length A.lines → slot_place A (opening_id n) < length A.lines → slot_place A (cond t (opening_id m) (opening_id n)) < length A.lines
  either true A m n h j = h
  either false A m n h j = j

  cell_inside : (s : Spot) → CellFits (kept_size k) s → CellFits (size_of (by_numbers k)) (locate_cell (by_numbers k) (cell_meant (axis k.rows) (axis k.cols) s))
  cell_inside s f = (rec_found k.rows rs rr ok.rows s.row f.0, rec_found k.cols cs cr ok.cols s.col f.1)

  range_inside : (s : Span) → RangeFits (kept_size k) s → RangeFits (size_of (by_numbers k)) (locate_range (by_numbers k) (range_meant (axis k.rows) (axis k.cols) s))
  range_inside s f =
      let rt = slot_found k.rows rs rr ok.rows s.top f.0.0 in
      let rb = slot_found k.rows rs rr ok.rows s.bottom f.1.0 in
      let cl = slot_found k.cols cs cr ok.cols s.left f.0.1 in
      let cr' = slot_found k.cols cs cr ok.cols s.right f.1.1 in
      ((either _ (axis k.rows) s.top s.bottom rt rb, either _ (axis k.cols) s.left s.right cl cr'), (either _ (axis k.rows) s.bottom s.top rb rt, either _ (axis k.cols) s.right s.left cr' cl))

  content_inside : (c : Content) → ContentFits (kept_size k) c → ContentFits (size_of (by_numbers k)) (locate_content (by_numbers k) (content_meant (axis k.rows) (axis k.cols) c))
  content_inside content.Empty f = tt
  content_inside (content.Num z) f = tt
  content_inside (content.Text t) f = tt
  content_inside (content.Formula t) f =
      subst (λ (c : Content). ContentFits (size_of (by_numbers k)) c) (ap content.Formula (sym (rename_rename (cell_meant (axis k.rows) (axis k.cols)) (range_meant (axis k.rows) (axis k.cols)) (locate_cell (by_numbers k)) (locate_range (by_numbers k)) t)))
      (references_after (λ s. locate_cell (by_numbers k) (cell_meant (axis k.rows) (axis k.cols) s)) (λ s. locate_range (by_numbers k) (range_meant (axis k.rows) (axis k.cols) s)) (CellFits (kept_size k)) (RangeFits (kept_size k)) (CellFits (size_of (by_numbers k))) (RangeFits (size_of (by_numbers k))) cell_inside range_inside t f)

  at_inside : (a b : LineId) → ContentFits (size_of (by_numbers k)) (locate_content (by_numbers k) ((by_numbers k).cells a b))
  at_inside a b = by_test (nat_eq a.site 0 && nat_eq b.site 0)
    where
      by_test : (t : Bool) → ContentFits (size_of (by_numbers k)) (locate_content (by_numbers k) (cond t (content_meant (axis k.rows) (axis k.cols) (k.cells a.number b.number)) blank))
      by_test true = content_inside (k.cells a.number b.number) (ok.fits a.number b.number)
      by_test false = tt

  pub kept_inside : GridFits (size_of (by_numbers k)) (placed (by_numbers k)).cells
  kept_inside = All-map (λ row. All (ContentFits (size_of (by_numbers k))) row) (λ (r : AxisLine). map (λ (c : AxisLine). locate_content (by_numbers k) ((by_numbers k).cells r.rec c.rec)) (axis k.cols).lines) (axis k.rows).lines
      (λ i d within. All-map (ContentFits (size_of (by_numbers k))) (λ (c : AxisLine). locate_content (by_numbers k) ((by_numbers k).cells (get_or (axis k.rows).lines i d).rec c.rec)) (axis k.cols).lines (λ j e inside. at_inside (get_or (axis k.rows).lines i d).rec (get_or (axis k.cols).lines j e).rec))

  pub nothing : (t : Bool) (c : Content) → c ≡ content.Empty → cond t (content_meant (axis k.rows) (axis k.cols) c) blank ≡ blank
  nothing true c e = ap (content_meant (axis k.rows) (axis k.cols)) e
  nothing false c e = refl
