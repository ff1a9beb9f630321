-- What an edit denotes fits the sheet on which it was made.
use Rattle.std.proofs.Common.{◌≡◌, ℕ, ◌<◌, Bool, true, false, cond, List, [], ◌∷◌, ◌-◌, ◌^◌, length, refl, ap, subst, arith, Some, None, Option, Ok, Err}
use Rattle.std.specs.Prelude.{ℤ, min, nat_eq, nat_lt, nat_le, slice_get, Result}
use Rattle.std.specs.Option.{option_and_then, option_map}
use Rattle.ss_base.specs.declared.types.Size.{Size}
use Rattle.ss_base.specs.declared.types.Spot.{Spot}
use Rattle.ss_base.specs.declared.types.Span.{Span}
use Rattle.cell_addr.specs.Cells.{range_between}
use Rattle.formula_tree.specs.Remap.{remap_spot, remap_span, spot_at, span_at, first_corner, last_corner, mapped}
use Rattle.formula_read.specs.Readings.{Reading, formula, stops}
use Rattle.formula_read.proofs.Readings.{reading}
use Rattle.sheet_ops.specs.declared.content.Content.{Content}
use Rattle.sheet_ops.specs.declared.content.Content.TheVariants as content
use Rattle.sheet_ops.specs.declared.edit.EditErr.{EditErr}
use Rattle.sheet_ops.specs.declared.edit.EditErr.TheVariants as fault
use Rattle.sheet_ops.specs.declared.operation.Intent.{Intent}
use Rattle.sheet_ops.specs.Fits.{IntentFits, ContentFits, CellFits, RangeFits, IsInside}
use Rattle.marked_lines.specs.Marks.{visible_places}
use Rattle.sheet_ops.specs.Placed.{PlacedSheet, placed_size}
use Rattle.sheet_ops.specs.Numerals.{is_numeral}
use Rattle.sheet_ops.specs.Weights.{weight_of_intent}
use Rattle.sheet_ops.proofs.References.{images_each}
use Rattle.sheet_ops.proofs.Visible.{visible_below}
use Rattle.author_ops.specs.Numbers.{entered_number, number_front}
use Rattle.author_ops.specs.Entries.{pair_seen, typed, formula_entered, number_entered, entered}
use Rattle.author_ops.specs.Edits.{place_seen, write_one, unless_heavy, written_at}

-- both of two positions
pub both_below : (first last n : ℕ) (a b : Option ℕ) (x y : ℕ) → ◌≡◌ {A = Option (ℕ × ℕ)} (option_and_then (λ p. option_map (λ q. (p, q)) b) a) (Some (x, y)) →
    ((p : ℕ) → a ≡ Some p → p < first) → ((q : ℕ) → b ≡ Some q → q < last) → (x < first) × (y < last)
both_below first last n None b x y e f g = absurd (cc)
both_below first last n (Some p) None x y e f g = absurd (cc)
both_below first last n (Some p) (Some q) x y e f g =
    let same : ◌≡◌ {A = ℕ × ℕ} (p, q) (x, y) = cc in
    let one : p ≡ x = ap (λ (s : ℕ × ℕ). s.0) same in
    let two : q ≡ y = ap (λ (s : ℕ × ℕ). s.1) same in
    (let h = f p refl in omega (arith, h, one), let h = g q refl in omega (arith, h, two))

pub pair_below : (ms : List Bool) (first last : ℕ) (pq : ℕ × ℕ) → pair_seen ms first last ≡ Some pq → (pq.0 < length ms) × (pq.1 < length ms)
pair_below ms first last (x, y) e =
    both_below (length ms) (length ms) (length ms) (slice_get (visible_places ms) first) (slice_get (visible_places ms) last) x y e (visible_below ms first) (visible_below ms last)

-- ---- typed references
module _ (P : PlacedSheet) where
  abbrev size : Size
  size = placed_size P

  cell_inside : (s d : Spot) (a b : Option ℕ) → option_and_then (λ row. option_map (λ col. spot_at s row col) b) a ≡ Some d →
      ((p : ℕ) → a ≡ Some p → p < length P.rows) → ((q : ℕ) → b ≡ Some q → q < length P.cols) → CellFits size d
  cell_inside s d None b e f g = absurd (cc)
  cell_inside s d (Some p) None e f g = absurd (cc)
  cell_inside s d (Some p) (Some q) e f g =
      let same : spot_at s p q ≡ d = cc in
      subst (λ (x : Spot). CellFits size x) same (f p refl, g q refl)

  one_of : (t : Bool) (x y n : ℕ) → x < n → y < n → cond t x y < n
  one_of true x y n h k = h
  one_of false x y n h k = k

  pub between_inside : (a b : Spot) → CellFits size a → CellFits size b → RangeFits size (range_between a b)
  between_inside a b h k = (
    (one_of (nat_le a.row b.row) a.row b.row (length P.rows) h.0 k.0, one_of (nat_le a.col b.col) a.col b.col (length P.cols) h.1 k.1),
    (one_of (nat_le a.row b.row) b.row a.row (length P.rows) k.0 h.0, one_of (nat_le a.col b.col) b.col a.col (length P.cols) k.1 h.1),
  )

  range_inside : (s r : Span) (a b : Option (ℕ × ℕ)) → option_and_then (λ rows. option_map (λ cols. span_at s rows cols) b) a ≡ Some r →
      ((p : ℕ × ℕ) → a ≡ Some p → (p.0 < length P.rows) × (p.1 < length P.rows)) → ((q : ℕ × ℕ) → b ≡ Some q → (q.0 < length P.cols) × (q.1 < length P.cols)) → RangeFits size r
  range_inside s r None b e f g = absurd (cc)
  range_inside s r (Some p) None e f g = absurd (cc)
  range_inside s r (Some p) (Some q) e f g =
      let same : span_at s p q ≡ r = cc in
      let rows = f p refl in
      let cols = g q refl in
      subst (λ (x : Span). RangeFits size x) same (between_inside (first_corner s p q) (last_corner s p q) (rows.0, cols.0) (rows.1, cols.1))

  typed_inside : (what : Reading) (c : Content) → formula_entered P.rows P.cols what ≡ Ok c → ContentFits size c
  typed_inside (stops p) c e = absurd (cc)
  typed_inside (formula t n) c e = by_nesting (nat_le n 64) e
    where
      by_nesting : (b : Bool) → ◌≡◌ {A = Result Content EditErr} (cond b (Ok (content.Formula (mapped (typed P.rows P.cols) t))) (Err fault.Deep)) (Ok c) → ContentFits size c
      by_nesting false e = absurd (cc)
      by_nesting true e =
          let same : content.Formula (mapped (typed P.rows P.cols) t) ≡ c = cc in
          subst (λ (x : Content). ContentFits size x) same
          (images_each (CellFits size) (RangeFits size) (remap_spot (typed P.rows P.cols)) (remap_span (typed P.rows P.cols))
          (λ s d k. cell_inside s d _ _ k (visible_below P.rows s.row) (visible_below P.cols s.col))
          (λ s r k. range_inside s r _ _ k (pair_below P.rows s.top s.bottom) (pair_below P.cols s.left s.right)) t)

  -- ---- entries
  number_inside : (entry : List ℕ) (c : Content) → number_entered entry ≡ Ok c → ContentFits size c
  number_inside entry c e = by_number (entered_number entry) e
    where
      by_number : (z : Option ℤ) → ◌≡◌ {A = Result Content EditErr} (elim z as (λ _. Result Content EditErr) [ Some n ↦ Ok (content.Num n) | None ↦ Err (fault.BadFormula (number_front entry)) ]) (Ok c) → ContentFits size c
      by_number None e = absurd (cc)
      by_number (Some n) e = let same : content.Num n ≡ c = cc in subst (λ (x : Content). ContentFits size x) same tt

  text_inside : (t : List ℕ) (c : Content) → ◌≡◌ {A = Result Content EditErr} (Ok (content.Text t)) (Ok c) → ContentFits size c
  text_inside t c e = let same : content.Text t ≡ c = cc in subst (λ (x : Content). ContentFits size x) same tt

  entered_inside : (entry : List ℕ) (c : Content) → entered P.rows P.cols entry ≡ Ok c → ContentFits size c
  entered_inside [] c e = text_inside [] c e
  entered_inside (b ∷ bs) c e = by_tests (nat_eq b 61) (nat_eq b 39) (is_numeral (b ∷ bs)) e
    where
      by_tests : (f t n : Bool) →
          cond f (formula_entered P.rows P.cols (reading (b ∷ bs))) (cond t (Ok (content.Text bs)) (cond n (number_entered (b ∷ bs)) (Ok (content.Text (b ∷ bs))))) ≡ Ok c → ContentFits size c
      by_tests true t n e = typed_inside (reading (b ∷ bs)) c e
      by_tests false true n e = text_inside bs c e
      by_tests false false true e = number_inside (b ∷ bs) c e
      by_tests false false false e = text_inside (b ∷ bs) c e

  -- ---- writes
  pub light_fits : (op op' : Intent) → unless_heavy op ≡ Ok op' → IntentFits size op → IntentFits size op'
  light_fits op op' e fits = by_weight (nat_lt 512 (weight_of_intent op)) e
    where
      by_weight : (b : Bool) → ◌≡◌ {A = Result Intent EditErr} (cond b (Err (fault.Heavy (min (weight_of_intent op) (2 ^ 32 - 1)))) (Ok op)) (Ok op') → IntentFits size op'
      by_weight true e = absurd (cc)
      by_weight false e = let same : op ≡ op' = cc in subst (λ (x : Intent). IntentFits size x) same fits

  written_fits : (place : Option (ℕ × ℕ)) (what : Result Content EditErr) (op : Intent) → written_at place what ≡ Ok op →
      ((p : ℕ × ℕ) → place ≡ Some p → IsInside size p.0 p.1) → ((c : Content) → what ≡ Ok c → ContentFits size c) → IntentFits size op
  written_fits None what op e f g = absurd (cc)
  written_fits (Some p) (Err x) op e f g = absurd (cc)
  written_fits (Some p) (Ok c) op e f g =
      let inside = f p refl in
      light_fits (write_one p c) op e (omega arith, omega arith, (inside.0, inside.1, g c refl, refl, tt))

  place_inside : (spot : Spot) (p : ℕ × ℕ) → place_seen P.rows P.cols spot ≡ Some p → IsInside size p.0 p.1
  place_inside spot (x, y) e =
      both_below (length P.rows) (length P.cols) (length P.rows) (slice_get (visible_places P.rows) spot.row) (slice_get (visible_places P.cols) spot.col) x y e (visible_below P.rows spot.row) (visible_below P.cols spot.col)

pub set-fits : (P : PlacedSheet) (spot : Spot) (entry : List ℕ) (op : Intent) → written_at (place_seen P.rows P.cols spot) (entered P.rows P.cols entry) ≡ Ok op → IntentFits (placed_size P) op
set-fits P spot entry op e = written_fits P (place_seen P.rows P.cols spot) (entered P.rows P.cols entry) op e (place_inside P spot) (entered_inside P entry)

pub clear-fits : (P : PlacedSheet) (spot : Spot) (op : Intent) → written_at (place_seen P.rows P.cols spot) (Ok content.Empty) ≡ Ok op → IntentFits (placed_size P) op
clear-fits P spot op e =
    written_fits P (place_seen P.rows P.cols spot) (Ok content.Empty) op e (place_inside P spot) (λ c k. let same : content.Empty ≡ c = cc in subst (λ (x : Content). ContentFits (placed_size P) x) same tt)
