-- References by numbers, and what they are by positions.
use Rattle.std.proofs.Common.{◌≡◌, ℕ, ◌<◌, Bool, true, false, cond, length, refl, ap, sym, ◌∙◌, arith, Option, Some, None}
use Rattle.std.specs.Prelude.{nat_lt, unwrap_or}
use Rattle.std.specs.Option.{option_and_then, option_map}
use Rattle.std.proofs.lemmas.Bool.Decides.{nat_tests}
use Rattle.ss_base.specs.declared.types.Size.{Size}
use Rattle.ss_base.specs.declared.types.Spot.{Spot}
use Rattle.ss_base.specs.declared.types.Span.{Span}
use Rattle.formula_tree.specs.Tree.{Tree}
use Rattle.formula_tree.specs.Remap.{remap_spot, remap_span, spot_at, span_at, mapped, IsMapped, IsSpotMapped, IsSpanMapped}
use Rattle.sheet_ops.specs.declared.content.Content.TheVariants as content
use Rattle.sheet_ops.specs.LineIds.{LineId, opening_id}
use Rattle.sheet_ops.specs.Lines.{rec_place, slot_place}
use Rattle.sheet_ops.specs.Identity.{IdSheet}
use Rattle.sheet_ops.specs.Naming.{locate_cell, locate_range}
use Rattle.sheet_ops.specs.Fits.{CellFits, RangeFits, ContentFits}
use Rattle.sheet_ops.proofs.References.{always}
use Rattle.sheet_ops.proofs.Renamed.{references_weaker, rename_rename}
use Rattle.sheet_grid.specs.Kept.{NumberedAxis, axis, cell_meant, range_meant, in_order}
use Rattle.sheet_grid.specs.Numbering.{IsAxis, place_of_rec, place_of_slot, pair_found, placing, lines_alone, content_placed}
use Rattle.sheet_grid.proofs.WellFormed.{rec_found, slot_found, lines_long}
use Rattle.sheet_grid.proofs.ToNumbers.{remap_renames, both_got}
use Rattle.sheet_grid.proofs.Compared.{below_test}

none_clash : (p : ℕ) → ◌≡◌ {A = Option ℕ} None (Some p) → ⊥
none_clash p e = cc

-- a place that is found is below 16,000
module _ (k : NumberedAxis) (ax : IsAxis k) (n p : ℕ) where
  pub rec_below : place_of_rec k n ≡ Some p → p < 16000
  rec_below e = by_test (nat_lt n (length k.slots)) refl e
    where
      by_test : (t : Bool) → nat_lt n (length k.slots) ≡ t → cond t (Some (rec_place (axis k) (opening_id n))) None ≡ Some p → p < 16000
      by_test false t e = absurd (none_clash p e)
      by_test true t e =
          let is : rec_place (axis k) (opening_id n) ≡ p = ap (λ (o : Option ℕ). unwrap_or o 0) e in
          let h : n < length k.slots = grind (arith, nat_tests) in
          let b = rec_found k ax.0 ax.1 ax.2 n h in
          let l = lines_long k ax.0 ax.1 ax.2 in
          let f = ax.2.slots.few in
          omega (arith, is, b, l, f)

  pub slot_below : place_of_slot k n ≡ Some p → p < 16000
  slot_below e = by_test (nat_lt n (length k.slots)) refl e
    where
      by_test : (t : Bool) → nat_lt n (length k.slots) ≡ t → cond t (Some (slot_place (axis k) (opening_id n))) None ≡ Some p → p < 16000
      by_test false t e = absurd (none_clash p e)
      by_test true t e =
          let is : slot_place (axis k) (opening_id n) ≡ p = ap (λ (o : Option ℕ). unwrap_or o 0) e in
          let h : n < length k.slots = grind (arith, nat_tests) in
          let b = slot_found k ax.0 ax.1 ax.2 n h in
          let l = lines_long k ax.0 ax.1 ax.2 in
          let f = ax.2.slots.few in
          omega (arith, is, b, l, f)

pair_below : (k : NumberedAxis) (ax : IsAxis k) (m n : ℕ) (p : ℕ × ℕ) → pair_found k m n ≡ Some p → (p.0 < 16000) × (p.1 < 16000)
pair_below k ax m n p e = let b = both_got (place_of_slot k m) (place_of_slot k n) p e in (slot_below k ax m p.0 b.0, slot_below k ax n p.1 b.1)

push : (f : LineId → ℕ) (t : Bool) (x y : LineId) → cond t (f x) (f y) ≡ f (cond t x y)
push f true x y = refl
push f false x y = refl

module _ (rows cols : NumberedAxis) where
  abbrev size : Size
  size = record { rows = length rows.slots; cols = length cols.slots }

  pub placing_mapped : IsAxis rows → IsAxis cols → (t : Tree Spot Span) → IsMapped (placing rows cols) t
  placing_mapped ro co t =
      always (IsSpotMapped (placing rows cols)) (IsSpanMapped (placing rows cols))
      (λ s row col e f.
      let h = rec_below rows ro s.row row e in
      let k = rec_below cols co s.col col f in
      (omega (arith, h), omega (arith, k)))
      (λ s rs cs e f.
      let h = pair_below rows ro s.top s.bottom rs e in
      let k = pair_below cols co s.left s.right cs f in
      ((omega (arith, h.0), omega (arith, k.0)), (omega (arith, h.1), omega (arith, k.1)))) t

  rec_is : (k : NumberedAxis) (n : ℕ) → n < length k.slots → place_of_rec k n ≡ Some (rec_place (axis k) (opening_id n))
  rec_is k n h = ap (λ (t : Bool). cond t (Some (rec_place (axis k) (opening_id n))) None) (below_test n (length k.slots) h)

  slot_is : (k : NumberedAxis) (n : ℕ) → n < length k.slots → place_of_slot k n ≡ Some (slot_place (axis k) (opening_id n))
  slot_is k n h = ap (λ (t : Bool). cond t (Some (slot_place (axis k) (opening_id n))) None) (below_test n (length k.slots) h)

  cell_placed : (s : Spot) → CellFits size s → remap_spot (placing rows cols) s ≡ Some (locate_cell (lines_alone rows cols) (cell_meant (axis rows) (axis cols) s))
  cell_placed s f = λ i. option_and_then (λ row. option_map (λ col. spot_at s row col) (rec_is cols s.col f.1 i)) (rec_is rows s.row f.0 i)

  range_placed : (s : Span) → RangeFits size s → remap_span (placing rows cols) s ≡ Some (locate_range (lines_alone rows cols) (range_meant (axis rows) (axis cols) s))
  range_placed s f =
      let rt : Bool = in_order (axis rows) (axis cols) (axis rows) s.top s.bottom in
      let ct : Bool = in_order (axis rows) (axis cols) (axis cols) s.left s.right in
      (λ i. option_and_then (λ rs. option_map (λ cs. span_at s rs cs) (option_and_then (λ m. option_map (λ n. (m, n)) (slot_is cols s.right f.1.1 i)) (slot_is cols s.left f.0.1 i))) (option_and_then (λ m. option_map (λ n. (m, n)) (slot_is rows s.bottom f.1.0 i)) (slot_is rows s.top f.0.0 i)))
      ∙ (λ i. Some (record {
        top = push (slot_place (axis rows)) rt (opening_id s.top) (opening_id s.bottom) i;
        left = push (slot_place (axis cols)) ct (opening_id s.left) (opening_id s.right) i;
        bottom = push (slot_place (axis rows)) rt (opening_id s.bottom) (opening_id s.top) i;
        right = push (slot_place (axis cols)) ct (opening_id s.right) (opening_id s.left) i;
        abs_top = cond rt s.abs_top s.abs_bottom;
        abs_left = cond ct s.abs_left s.abs_right;
        abs_bottom = cond rt s.abs_bottom s.abs_top;
        abs_right = cond ct s.abs_right s.abs_left;
      }))

  pub formula_placed-is : (t : Tree Spot Span) → ContentFits size (content.Formula t) → content.Formula (mapped (placing rows cols) t) ≡ content_placed rows cols (content.Formula t)
  formula_placed-is t f =
      let X : IdSheet = lines_alone rows cols in
      ap content.Formula
      (remap_renames (remap_spot (placing rows cols)) (remap_span (placing rows cols)) (λ s. locate_cell (lines_alone rows cols) (cell_meant (axis rows) (axis cols) s)) (λ s. locate_range (lines_alone rows cols) (range_meant (axis rows) (axis cols) s)) t
      (references_weaker (CellFits size) (RangeFits size) _ _ cell_placed range_placed t f)
      ∙ sym (rename_rename (cell_meant (axis rows) (axis cols)) (range_meant (axis rows) (axis cols)) (locate_cell (lines_alone rows cols)) (locate_range (lines_alone rows cols)) t))
