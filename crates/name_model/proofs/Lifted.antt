-- A whole sheet by positions is that of the sheet by identity whose lines are named by their positions.
use Rattle.std.proofs.Common.{◌≡◌, ℕ, zero, suc, ◌+◌, ◌<◌, Bool, true, false, cond, List, [], ◌∷◌, length, get_or, refl, ap, sym, ◌∙◌, subst, arith, All}
use Rattle.std.specs.Prelude.{◌&&◌, nat_eq, map, slice_index_or}
use Rattle.std.proofs.lemmas.Bool.Decides.{nat_tests}
use Rattle.std.proofs.lemmas.List.Elements.{All-map}
use Rattle.std.proofs.lemmas.List.{same_lists, get_or-map, length-map, get_or_default}
use Rattle.ss_base.specs.declared.types.Size.{Size}
use Rattle.ss_base.specs.declared.types.Spot.{Spot}
use Rattle.ss_base.specs.declared.types.Span.{Span}
use Rattle.sheet_ops.specs.declared.content.Content.{Content}
use Rattle.sheet_ops.specs.declared.content.Content.TheVariants as content
use Rattle.sheet_ops.specs.LineIds.{LineId, id_eq, opening_id, operation_id}
use Rattle.sheet_ops.specs.Lines.{AxisLine, Axis, new_line, no_line, opening_lines, rec_place, slot_place}
use Rattle.sheet_ops.specs.Identity.{IdContent, blank, IdSheet}
use Rattle.sheet_ops.specs.Fits.{CellFits, RangeFits, ContentFits, GridFits, Avoids, IsWellFormedAxis, IsWellFormed, IsNewOn, IsNew}
use Rattle.sheet_ops.specs.Naming.{locate_cell, locate_range, locate_content}
use Rattle.sheet_ops.specs.Placed.{PlacedSheet, placed, placed_size, cell_at, lift_cell, lift_range, lift_content, lift_marks, lift_axis, lifted}
use Rattle.sheet_ops.proofs.Ids.{opening_at, length-opening_lines, opening_well_formed}
use Rattle.sheet_ops.proofs.Places.{place_of_at}
use Rattle.sheet_ops.proofs.Renamed.{rename_same, rename_rename, rename_itself, references_weaker}
use Rattle.name_model.specs.Laws.{IsWhole}

-- ---- the lines
pub axis_formed : (ms : List Bool) → IsWellFormedAxis (lift_axis ms)
axis_formed ms = opening_well_formed (lift_axis ms) (length ms) refl

-- the line at a position is named by it
line_at : (n p : ℕ) → p < n → slice_index_or (opening_lines 0 n) p no_line ≡ new_line (opening_id p)
line_at n p h = opening_at 0 n p no_line h ∙ ap (λ k. new_line (opening_id k)) (let e : 0 + p ≡ p = omega arith in e)

within : (n p : ℕ) → p < n → p < length (opening_lines 0 n)
within n p h = let e = length-opening_lines 0 n in omega (arith, h, e)

rec_found : (ms : List Bool) (p : ℕ) → p < length ms → rec_place (lift_axis ms) (opening_id p) ≡ p
rec_found ms p h =
    ap (λ (l : AxisLine). rec_place (lift_axis ms) l.rec) (sym (line_at (length ms) p h))
    ∙ place_of_at (λ l. l.rec) (lift_axis ms).lines (axis_formed ms).recs p (within (length ms) p h)

slot_found : (ms : List Bool) (p : ℕ) → p < length ms → slot_place (lift_axis ms) (opening_id p) ≡ p
slot_found ms p h =
    ap (λ (l : AxisLine). slot_place (lift_axis ms) l.slot) (sym (line_at (length ms) p h))
    ∙ place_of_at (λ l. l.slot) (lift_axis ms).lines (axis_formed ms).slots p (within (length ms) p h)

-- what a function of opening lines gives, position by position
of_lines : {A : Type 0} (f : AxisLine → A) (xs : List A) (n : ℕ) → length xs ≡ n → ((p : ℕ) (d : A) → p < n → f (new_line (opening_id p)) ≡ get_or xs p d) → map f (opening_lines 0 n) ≡ xs
of_lines f xs n long at =
    same_lists (map f (opening_lines 0 n)) xs (length-map (opening_lines 0 n) f ∙ (length-opening_lines 0 n ∙ sym long)) (λ k d inside.
    let here : k < n = let e = length-map (opening_lines 0 n) f in let l = length-opening_lines 0 n in omega (arith, inside, e, l) in
    get_or-map f (opening_lines 0 n) k no_line d (within n k here) ∙ (ap f (line_at n k here) ∙ at k d here))

marks_lifted : (ms : List Bool) → map (λ (l : AxisLine). lift_marks ms l.rec) (opening_lines 0 (length ms)) ≡ ms
marks_lifted ms = of_lines (λ l. lift_marks ms l.rec) ms (length ms) refl (λ p d h. get_or_default ms p false d h)

-- ---- the contents
module _ (P : PlacedSheet) where
  cell_back : (s : Spot) → CellFits (placed_size P) s → locate_cell (lifted P) (lift_cell s) ≡ s
  cell_back s f = λ i. record s { row = rec_found P.rows s.row f.0 i; col = rec_found P.cols s.col f.1 i }

  range_back : (s : Span) → RangeFits (placed_size P) s → locate_range (lifted P) (lift_range s) ≡ s
  range_back s f = λ i. record s {
    top = slot_found P.rows s.top f.0.0 i;
    left = slot_found P.cols s.left f.0.1 i;
    bottom = slot_found P.rows s.bottom f.1.0 i;
    right = slot_found P.cols s.right f.1.1 i;
  }

  content_back : (c : Content) → ContentFits (placed_size P) c → locate_content (lifted P) (lift_content c) ≡ c
  content_back content.Empty f = refl
  content_back (content.Num z) f = refl
  content_back (content.Text t) f = refl
  content_back (content.Formula t) f =
      ap content.Formula
      (rename_rename lift_cell lift_range (locate_cell (lifted P)) (locate_range (lifted P)) t
      ∙ (rename_same (λ s. locate_cell (lifted P) (lift_cell s)) (λ s. s) (λ s. locate_range (lifted P) (lift_range s)) (λ s. s) t
      (references_weaker (CellFits (placed_size P)) (RangeFits (placed_size P)) _ _ cell_back range_back t f)
      ∙ rename_itself t))

  module _ (whole : IsWhole P) where
    row_lifted : (r : ℕ) (d : List Content) → r < length P.rows → map (λ (c : AxisLine). locate_content (lifted P) ((lifted P).cells (opening_id r) c.rec)) (opening_lines 0 (length P.cols)) ≡ get_or P.cells r d
    row_lifted r d h =
        of_lines (λ (c : AxisLine). locate_content (lifted P) ((lifted P).cells (opening_id r) c.rec)) (get_or P.cells r d) (length P.cols) (whole.as_long r d there) (λ p e k.
        let long : p < length (get_or P.cells r d) = let l = whole.as_long r d there in omega (arith, k, l) in
        content_back (cell_at P r p) (fits p k) ∙ (ap (λ (row : List Content). slice_index_or row p content.Empty) (get_or_default P.cells r [] d there) ∙ get_or_default (get_or P.cells r d) p content.Empty e long))
      where
        there : r < length P.cells
        there = let n = whole.as_many in omega (arith, h, n)

        fits : (p : ℕ) → p < length P.cols → ContentFits (placed_size P) (cell_at P r p)
        fits p k = let l = whole.as_long r [] there in whole.inside r [] there p content.Empty (omega (arith, k, l))

    pub placed-lifted : placed (lifted P) ≡ P
    placed-lifted = λ i. record {
      rows = marks_lifted P.rows i;
      cols = marks_lifted P.cols i;
      cells = of_lines (λ (r : AxisLine). map (λ (c : AxisLine). locate_content (lifted P) ((lifted P).cells r.rec c.rec)) (opening_lines 0 (length P.cols))) P.cells (length P.rows) whole.as_many row_lifted i;
    }

-- ---- what is new
opening_apart : (site : ℕ) → 0 < site → nat_eq 0 site ≡ false
opening_apart site h = grind (arith, nat_tests)

site_apart : (site : ℕ) → 0 < site → nat_eq site 0 ≡ false
site_apart site h = grind (arith, nat_tests)

avoids_opening : (of : AxisLine → LineId) → ((k : ℕ) → of (new_line (opening_id k)) ≡ opening_id k) → (site number : ℕ) → 0 < site → (first count : ℕ) → Avoids of (opening_lines first count) (operation_id site number)
avoids_opening of e site number h first zero = tt
avoids_opening of e site number h first (suc count) =
    (ap (λ (a : LineId). id_eq a (operation_id site number)) (e first) ∙ ap (λ t. t && nat_eq first number) (opening_apart site h), avoids_opening of e site number h (suc first) count)

new_on : (ms : List Bool) (site number : ℕ) → 0 < site → IsNewOn (lift_axis ms) (operation_id site number)
new_on ms site number h = record {
  slots = avoids_opening (λ l. l.slot) (λ k. refl) site number h 0 (length ms);
  recs = avoids_opening (λ l. l.rec) (λ k. refl) site number h 0 (length ms);
  live = ap (λ t. t && slice_index_or ms number false) (site_apart site h);
}

pub lifted-formed : (P : PlacedSheet) → IsWellFormed (lifted P)
lifted-formed P = record { rows = axis_formed P.rows; cols = axis_formed P.cols }

pub lifted-new : (P : PlacedSheet) (site number : ℕ) → 0 < site → IsNew (lifted P) (operation_id site number)
lifted-new P site number h = record {
  rows = new_on P.rows site number h;
  cols = new_on P.cols site number h;
  in_row = λ col. ap (λ t. cond (t && nat_eq col.site 0) (lift_content (cell_at P number col.number)) blank) (site_apart site h);
  in_col = λ row. ap (λ t. cond t (lift_content (cell_at P row.number number)) blank) (second_false (nat_eq row.site 0) (nat_eq site 0) (site_apart site h));
}
  where
    second_false : (a b : Bool) → b ≡ false → a && b ≡ false
    second_false true b e = e
    second_false false b e = refl

-- what is placed is whole, where its references are inside
pub placed-whole : (X : IdSheet) → GridFits (placed_size (placed X)) (placed X).cells → IsWhole (placed X)
placed-whole X inside = record {
  as_many = length-map X.rows.lines (λ (r : AxisLine). map (λ (c : AxisLine). locate_content X (X.cells r.rec c.rec)) X.cols.lines) ∙ sym (length-map X.rows.lines (λ (l : AxisLine). X.rows.dead l.rec));
  as_long = All-map (λ (row : List Content). length row ≡ length (placed X).cols) (λ (r : AxisLine). map (λ (c : AxisLine). locate_content X (X.cells r.rec c.rec)) X.cols.lines) X.rows.lines
      (λ k d inside. length-map X.cols.lines (λ (c : AxisLine). locate_content X (X.cells (get_or X.rows.lines k d).rec c.rec)) ∙ sym (length-map X.cols.lines (λ (l : AxisLine). X.cols.dead l.rec)));
  inside = inside;
}
