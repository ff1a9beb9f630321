-- What a kept content means depends on nothing but in which order the slots stand.
use Rattle.std.proofs.Common.{◌≡◌, ℕ, ◌<◌, cond, length, refl, ap, ◌∙◌}
use Rattle.std.specs.Prelude.{◌&&◌, nat_eq, nat_le}
use Rattle.ss_base.specs.declared.types.Size.{Size}
use Rattle.ss_base.specs.declared.types.Span.{Span}
use Rattle.sheet_ops.specs.declared.content.Content.{Content}
use Rattle.sheet_ops.specs.declared.content.Content.TheVariants as content
use Rattle.sheet_ops.specs.LineIds.{opening_id}
use Rattle.sheet_ops.specs.Lines.{Axis, slot_place}
use Rattle.sheet_ops.specs.Identity.{blank, formula}
use Rattle.sheet_ops.specs.Maps.{LineMap}
use Rattle.sheet_ops.specs.Fits.{CellFits, RangeFits, ContentFits}
use Rattle.sheet_ops.proofs.Renamed.{rename_same, references_weaker}
use Rattle.sheet_ops.proofs.Carried.{Carries, slot_carried}
use Rattle.sheet_grid.specs.Kept.{NumberedAxis, KeptSheet, axis, cell_meant, range_meant, content_meant, by_numbers, kept_size}

-- the slots with these numbers stand in the same order
abbrev pub SameOrder : Axis → Axis → ℕ → Type 0
SameOrder A B n = (a b : ℕ) → a < n → b < n → nat_le (slot_place B (opening_id a)) (slot_place B (opening_id b)) ≡ nat_le (slot_place A (opening_id a)) (slot_place A (opening_id b))

pub order_carried : (A B : Axis) (m : LineMap) (n : ℕ) → Carries A B m → ((j : ℕ) → j < n → slot_place A (opening_id j) < length A.lines) → ((a b : ℕ) → nat_le (m.slot a) (m.slot b) ≡ nat_le a b) → SameOrder A B n
order_carried A B m n carried found up a b h k =
    (λ i. nat_le (slot_carried A B m carried (opening_id a) (found a h) i) (slot_carried A B m carried (opening_id b) (found b k) i))
    ∙ up (slot_place A (opening_id a)) (slot_place A (opening_id b))

module _ (rows cols rows' cols' : Axis) (size : Size) (ro : SameOrder rows rows' size.rows) (co : SameOrder cols cols' size.cols) where
  range_kept : (s : Span) → RangeFits size s → range_meant rows' cols' s ≡ range_meant rows cols s
  range_kept s f =
      let e = ro s.top s.bottom f.0.0 f.1.0 in
      let g = co s.left s.right f.0.1 f.1.1 in
      λ i. record {
        top = cond (e i) (opening_id s.top) (opening_id s.bottom);
        left = cond (g i) (opening_id s.left) (opening_id s.right);
        bottom = cond (e i) (opening_id s.bottom) (opening_id s.top);
        right = cond (g i) (opening_id s.right) (opening_id s.left);
        abs_top = cond (e i) s.abs_top s.abs_bottom;
        abs_left = cond (g i) s.abs_left s.abs_right;
        abs_bottom = cond (e i) s.abs_bottom s.abs_top;
        abs_right = cond (g i) s.abs_right s.abs_left;
      }

  pub content_kept : (c : Content) → ContentFits size c → content_meant rows' cols' c ≡ content_meant rows cols c
  content_kept content.Empty f = refl
  content_kept (content.Num z) f = refl
  content_kept (content.Text t) f = refl
  content_kept (content.Formula t) f =
      ap formula (rename_same (cell_meant rows' cols') (cell_meant rows cols) (range_meant rows' cols') (range_meant rows cols) t
      (references_weaker (CellFits size) (RangeFits size) _ _ (λ s g. refl) range_kept t f))

-- What is kept in other axes, in which the slots stand in the same order: no content means anything else.
pub sheet_carried : (k : KeptSheet) (R C : Axis) → ((a b : ℕ) → ContentFits (kept_size k) (k.cells a b)) → SameOrder (axis k.rows) R (length k.rows.slots) → SameOrder (axis k.cols) C (length k.cols.slots) →
    (rows cols : NumberedAxis) → axis rows ≡ R → axis cols ≡ C → by_numbers (record { rows = rows; cols = cols; cells = k.cells }) ≡ record { rows = R; cols = C; cells = (by_numbers k).cells }
sheet_carried k R C fits ro co rows cols e f =
    (λ i. record {
      rows = e i;
      cols = f i;
      cells = λ a b. cond (nat_eq a.site 0 && nat_eq b.site 0) (content_meant (e i) (f i) (k.cells a.number b.number)) blank;
    })
    ∙ (λ i. record {
      rows = R;
      cols = C;
      cells = λ a b. cond (nat_eq a.site 0 && nat_eq b.site 0) (content_kept (axis k.rows) (axis k.cols) R C (kept_size k) ro co (k.cells a.number b.number) (fits a.number b.number) i) blank;
    })
