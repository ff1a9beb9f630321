-- Positions, references and formulas where a map takes them.
use Rattle.std.proofs.Common.{◌≡◌, ℕ, ◌<◌, ◌≤◌, Bool, true, false, cond, refl, ap, ◌∙◌, arith, Some, None}
use Rattle.std.specs.Prelude.{nat_lt, nat_le, ◌&&◌}
use Rattle.std.specs.Option.{option_and_then, option_map}
use Rattle.std.proofs.lemmas.Bool.Decides.{nat_tests}
use Rattle.marked_lines.proofs.Permuting.{image_inside}
use Rattle.ss_base.specs.declared.types.Spot.{Spot}
use Rattle.ss_base.specs.declared.types.Span.{Span}
use Rattle.formula_tree.specs.Tree.{Tree, rename_tree}
use Rattle.formula_tree.specs.Remap.{remap_spot, remap_span, spot_at, span_at, mapped, IsMapped, IsSpotMapped, IsSpanMapped, EachReference}
use Rattle.formula_tree.specs.WellFormed.{IsFormula}
use Rattle.sheet_ops.specs.Fits.{CellFits, RangeFits}
use Rattle.sheet_ops.specs.Maps.{cell_moved, range_moved}
use Rattle.sheet_ops.proofs.Carried.{after_below}
use Rattle.sheet_ops.proofs.Ids.{both_true}
use Rattle.sheet_ops.proofs.References.{always}
use Rattle.sheet_ops.proofs.Renamed.{references_weaker}
use Rattle.pair_transform.specs.declared.axis_map.AxisMap.{AxisMap}
use Rattle.pair_transform.specs.declared.axis_map.AxisMap.TheVariants.{Same, Inserted, Moved}
use Rattle.pair_transform.specs.declared.sheet_map.SheetMap.{SheetMap}
use Rattle.pair_transform.specs.AxisMaps.{line_map, IsAxisMap}
use Rattle.pair_transform.specs.SheetMaps.{IsSheetMap, images_of}
use Rattle.pair_transform.proofs.Remapped.{remap_renames, InOrder, ordered_formula}

-- ---- one axis
rec_low : (m : AxisMap) (n p : ℕ) → n ≤ 16000 → IsAxisMap n m → p < n → (line_map m).rec p ≤ 16000
rec_low Same n p few ok h = omega arith
rec_low (Inserted q) n p few ok h = let b = after_below q p n h in omega arith
rec_low (Moved moves) n p few ok h = let b = image_inside moves.now ok.0 n p ok.1 h in omega arith

slot_low : (m : AxisMap) (n p : ℕ) → n ≤ 16000 → p < n → (line_map m).slot p ≤ 16000
slot_low Same n p few h = omega arith
slot_low (Inserted q) n p few h = let b = after_below q p n h in omega arith
slot_low (Moved moves) n p few h = omega arith

-- slots keep their order
slot_rises : (m : AxisMap) (p q : ℕ) → p ≤ q → nat_le ((line_map m).slot p) ((line_map m).slot q) ≡ true
slot_rises Same p q h = grind (arith, nat_tests)
slot_rises (Inserted at) p q h = grind (arith, nat_tests)
slot_rises (Moved moves) p q h = grind (arith, nat_tests)

-- ---- images that are there
got : {A : Type 0} (t : Bool) (x y : A) → cond t (Some x) None ≡ Some y → (t ≡ true) × (x ≡ y)
got true x y e = (refl, cc)
got false x y e = absurd (cc)

within : (p n : ℕ) → nat_lt p n ≡ true → p < n
within p n h = grind (arith, nat_tests)

test : (p n : ℕ) → p < n → nat_lt p n ≡ true
test p n h = grind (arith, nat_tests)

tests : (p q n : ℕ) → p < n → q < n → nat_lt p n && nat_lt q n ≡ true
tests p q n h k = λ i. test p n h i && test q n k i

module _ (m : SheetMap) (ok : IsSheetMap m) where
  -- a row and a column that an address can spell
  row_of : (p row : ℕ) → cond (nat_lt p m.size.rows) (Some ((line_map m.rows).rec p)) None ≡ Some row → row ≤ 16000
  row_of p row e =
      let g = got (nat_lt p m.size.rows) ((line_map m.rows).rec p) row e in
      let b = rec_low m.rows m.size.rows p ok.few_rows ok.rows (within p m.size.rows g.0) in
      omega (arith, b, g.1)

  col_of : (p col : ℕ) → cond (nat_lt p m.size.cols) (Some ((line_map m.cols).rec p)) None ≡ Some col → col ≤ 16000
  col_of p col e =
      let g = got (nat_lt p m.size.cols) ((line_map m.cols).rec p) col e in
      let b = rec_low m.cols m.size.cols p ok.few_cols ok.cols (within p m.size.cols g.0) in
      omega (arith, b, g.1)

  rows_of : (p q : ℕ) (ends : ℕ × ℕ) → cond (nat_lt p m.size.rows && nat_lt q m.size.rows) (Some ((line_map m.rows).slot p, (line_map m.rows).slot q)) None ≡ Some ends → (ends.0 ≤ 16000) × (ends.1 ≤ 16000)
  rows_of p q ends e =
      let g = got (nat_lt p m.size.rows && nat_lt q m.size.rows) ((line_map m.rows).slot p, (line_map m.rows).slot q) ends e in
      let both = both_true (nat_lt p m.size.rows) (nat_lt q m.size.rows) g.0 in
      let first = slot_low m.rows m.size.rows p ok.few_rows (within p m.size.rows both.0) in
      let last = slot_low m.rows m.size.rows q ok.few_rows (within q m.size.rows both.1) in
      (omega (arith, first, ap (λ (r : ℕ × ℕ). r.0) g.1), omega (arith, last, ap (λ (r : ℕ × ℕ). r.1) g.1))

  cols_of : (p q : ℕ) (ends : ℕ × ℕ) → cond (nat_lt p m.size.cols && nat_lt q m.size.cols) (Some ((line_map m.cols).slot p, (line_map m.cols).slot q)) None ≡ Some ends → (ends.0 ≤ 16000) × (ends.1 ≤ 16000)
  cols_of p q ends e =
      let g = got (nat_lt p m.size.cols && nat_lt q m.size.cols) ((line_map m.cols).slot p, (line_map m.cols).slot q) ends e in
      let both = both_true (nat_lt p m.size.cols) (nat_lt q m.size.cols) g.0 in
      let first = slot_low m.cols m.size.cols p ok.few_cols (within p m.size.cols both.0) in
      let last = slot_low m.cols m.size.cols q ok.few_cols (within q m.size.cols both.1) in
      (omega (arith, first, ap (λ (r : ℕ × ℕ). r.0) g.1), omega (arith, last, ap (λ (r : ℕ × ℕ). r.1) g.1))

  pub images_spelled : (t : Tree Spot Span) → IsMapped (images_of m) t
  images_spelled t =
      always (IsSpotMapped (images_of m)) (IsSpanMapped (images_of m))
      (λ s row col e f. let r = row_of s.row row e in let c = col_of s.col col f in (omega (arith, r), omega (arith, c)))
      (λ s rows cols e f.
      let r = rows_of s.top s.bottom rows e in
      let c = cols_of s.left s.right cols f in
      ((omega (arith, r.0), omega (arith, c.0)), (omega (arith, r.1), omega (arith, c.1)))) t

  -- ---- references inside the sheet
  cell_renamed : (s : Spot) → CellFits m.size s → remap_spot (images_of m) s ≡ Some (cell_moved (line_map m.rows) (line_map m.cols) s)
  cell_renamed s f = λ i.
      option_and_then (λ row. option_map (λ col. spot_at s row col) (cond (test s.col m.size.cols f.1 i) (Some ((line_map m.cols).rec s.col)) None))
      (cond (test s.row m.size.rows f.0 i) (Some ((line_map m.rows).rec s.row)) None)

  range_there : (s : Span) → RangeFits m.size s →
      remap_span (images_of m) s ≡ Some (span_at s ((line_map m.rows).slot s.top, (line_map m.rows).slot s.bottom) ((line_map m.cols).slot s.left, (line_map m.cols).slot s.right))
  range_there s f = λ i.
      option_and_then (λ rows. option_map (λ cols. span_at s rows cols)
      (cond (tests s.left s.right m.size.cols f.0.1 f.1.1 i) (Some ((line_map m.cols).slot s.left, (line_map m.cols).slot s.right)) None))
      (cond (tests s.top s.bottom m.size.rows f.0.0 f.1.0 i) (Some ((line_map m.rows).slot s.top, (line_map m.rows).slot s.bottom)) None)

  range_renamed : (s : Span) → InOrder (CellFits m.size) (RangeFits m.size) s → remap_span (images_of m) s ≡ Some (range_moved (line_map m.rows) (line_map m.cols) s)
  range_renamed s (f, down, right) = range_there s f ∙ (λ i. Some (put_in_order (slot_rises m.rows s.top s.bottom down i) (slot_rises m.cols s.left s.right right i)))
    where
      put_in_order : Bool → Bool → Span
      put_in_order d r = record {
        top = cond d ((line_map m.rows).slot s.top) ((line_map m.rows).slot s.bottom);
        left = cond r ((line_map m.cols).slot s.left) ((line_map m.cols).slot s.right);
        bottom = cond d ((line_map m.rows).slot s.bottom) ((line_map m.rows).slot s.top);
        right = cond r ((line_map m.cols).slot s.right) ((line_map m.cols).slot s.left);
        abs_top = cond d s.abs_top s.abs_bottom;
        abs_left = cond r s.abs_left s.abs_right;
        abs_bottom = cond d s.abs_bottom s.abs_top;
        abs_right = cond r s.abs_right s.abs_left;
      }

  pub formula_renamed : (t : Tree Spot Span) → IsFormula t → EachReference (CellFits m.size) (RangeFits m.size) t →
      mapped (images_of m) t ≡ rename_tree (cell_moved (line_map m.rows) (line_map m.cols)) (range_moved (line_map m.rows) (line_map m.cols)) t
  formula_renamed t formula f =
      remap_renames (remap_spot (images_of m)) (remap_span (images_of m)) (cell_moved (line_map m.rows) (line_map m.cols)) (range_moved (line_map m.rows) (line_map m.cols)) t
      (references_weaker (CellFits m.size) (InOrder (CellFits m.size) (RangeFits m.size)) _ _ cell_renamed range_renamed t (ordered_formula (CellFits m.size) (RangeFits m.size) t formula f))
