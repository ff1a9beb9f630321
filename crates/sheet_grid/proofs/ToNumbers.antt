-- References by positions, and what they are by numbers.
use Rattle.std.proofs.Common.{◌≡◌, ℕ, zero, suc, ◌<◌, Bool, true, false, cond, List, [], ◌∷◌, length, refl, ap, arith, Option, Some, None}
use Rattle.std.specs.Prelude.{map, slice_index, slice_get, unwrap_or}
use Rattle.std.specs.Option.{option_and_then, option_map}
use Rattle.ss_base.specs.declared.types.Size.{Size}
use Rattle.ss_base.specs.declared.types.Spot.{Spot}
use Rattle.ss_base.specs.declared.types.Span.{Span}
use Rattle.formula_tree.specs.Tree.{Tree, Trees, num, text, fault, cell, range, pre, bin, call, none, more, rename_tree, rename_trees}
use Rattle.formula_tree.specs.Remap.{remap_tree, remap_trees, remap_spot, remap_span, spot_at, span_at, cell_or_lost, range_or_lost, mapped, IsMapped, IsSpotMapped, IsSpanMapped, EachReference, EachReferences}
use Rattle.formula_tree.specs.WellFormed.{IsWellFormed, AreWellFormed, IsFormula}
use Rattle.sheet_ops.specs.declared.content.Content.{Content}
use Rattle.sheet_ops.specs.declared.content.Content.TheVariants as content
use Rattle.sheet_ops.specs.declared.content.Put.{Put}
use Rattle.sheet_ops.specs.Fits.{CellFits, RangeFits, ContentFits}
use Rattle.sheet_ops.proofs.References.{always}
use Rattle.sheet_ops.proofs.Renamed.{references_weaker, references_after}
use Rattle.sheet_grid.specs.Numbers.{IsNumbered}
use Rattle.sheet_grid.specs.Kept.{NumberedAxis, rec_number, slot_number, cell_numbered, range_numbered, content_numbered}
use Rattle.sheet_grid.specs.Rows.{AllFit}
use Rattle.sheet_grid.specs.Numbering.{IsAxis, pair_at, numbering, HasOrderedCorners, put_numbered}

-- ---- an element that is there
pub got : (xs : List ℕ) (i n : ℕ) → slice_get xs i ≡ Some n → (i < length xs) × (slice_index xs i ≡ n)
got [] i n e = absurd (cc)
got (x ∷ xs) zero n e = (omega arith, ap (λ (o : Option ℕ). unwrap_or o 0) e)
got (x ∷ xs) (suc i) n e = let r = got xs i n e in (omega (arith, r.0), r.1)

pub there : (xs : List ℕ) (i : ℕ) → i < length xs → slice_get xs i ≡ Some (slice_index xs i)
there [] i h = absurd (omega arith)
there (x ∷ xs) zero h = refl
there (x ∷ xs) (suc i) h = there xs i (omega arith)

pub both_got : (o q : Option ℕ) (p : ℕ × ℕ) → option_and_then (λ m. option_map (λ n. (m, n)) q) o ≡ Some p → (o ≡ Some p.0) × (q ≡ Some p.1)
both_got None q p e = absurd (cc)
both_got (Some m) None p e = absurd (cc)
both_got (Some m) (Some n) p e = (ap (λ (x : Option (ℕ × ℕ)). option_map (λ (r : ℕ × ℕ). r.0) x) e, ap (λ (x : Option (ℕ × ℕ)). option_map (λ (r : ℕ × ℕ). r.1) x) e)

-- ---- trees
module _ {C R D S : Type 0} (f : C → Option D) (g : R → Option S) (h : C → D) (k : R → S) where
  mutual
    pub remap_renames : (t : Tree C R) → EachReference (λ c. f c ≡ Some (h c)) (λ r. g r ≡ Some (k r)) t → remap_tree f g t ≡ rename_tree h k t
    remap_renames (num n) a = refl
    remap_renames (text t) a = refl
    remap_renames (fault e) a = refl
    remap_renames (cell c) a = ap cell_or_lost a
    remap_renames (range r) a = ap range_or_lost a
    remap_renames (pre op t) a = ap (pre op) (remap_renames t a)
    remap_renames (bin op s t) a = λ i. bin op (remap_renames s a.0 i) (remap_renames t a.1 i)
    remap_renames (call fun ts) a = ap (call fun) (remap_all_renames ts a)

    remap_all_renames : (ts : Trees C R) → EachReferences (λ c. f c ≡ Some (h c)) (λ r. g r ≡ Some (k r)) ts → remap_trees f g ts ≡ rename_trees h k ts
    remap_all_renames none a = refl
    remap_all_renames (more t ts) a = λ i. more (remap_renames t a.0 i) (remap_all_renames ts a.1 i)

module _ {C R : Type 0} (P : C → Type 0) (Q : R → Type 0) (P' : C → Type 0) (Q' : R → Type 0) where
  mutual
    pub references_both : (t : Tree C R) → EachReference P Q t → EachReference P' Q' t → EachReference (λ c. P c × P' c) (λ r. Q r × Q' r) t
    references_both (num n) a b = tt
    references_both (text t) a b = tt
    references_both (fault e) a b = tt
    references_both (cell c) a b = (a, b)
    references_both (range r) a b = (a, b)
    references_both (pre op t) a b = references_both t a b
    references_both (bin op s t) a b = (references_both s a.0 b.0, references_both t a.1 b.1)
    references_both (call fun ts) a b = all_references_both ts a b

    all_references_both : (ts : Trees C R) → EachReferences P Q ts → EachReferences P' Q' ts → EachReferences (λ c. P c × P' c) (λ r. Q r × Q' r) ts
    all_references_both none a b = tt
    all_references_both (more t ts) a b = (references_both t a.0 b.0, all_references_both ts a.1 b.1)

-- a formula has its ranges in order
mutual
  ordered_tree : (t : Tree Spot Span) → IsWellFormed t → EachReference (λ s. Unit {0}) HasOrderedCorners t
  ordered_tree (num n) w = tt
  ordered_tree (text t) w = tt
  ordered_tree (fault e) w = tt
  ordered_tree (cell c) w = tt
  ordered_tree (range r) w = (w.rows, w.cols)
  ordered_tree (pre op t) w = ordered_tree t w
  ordered_tree (bin op s t) w = (ordered_tree s w.0, ordered_tree t w.1)
  ordered_tree (call fun ts) w = ordered_trees ts w.1

  ordered_trees : (ts : Trees Spot Span) → AreWellFormed ts → EachReferences (λ s. Unit {0}) HasOrderedCorners ts
  ordered_trees none w = tt
  ordered_trees (more t ts) w = (ordered_tree t w.0, ordered_trees ts w.1)

pub ordered_formula : (t : Tree Spot Span) → IsFormula t → EachReference (λ s. Unit {0}) HasOrderedCorners t
ordered_formula t f = ordered_tree t f.formed

-- ---- numbers
number_below : (ns ps : List ℕ) → IsNumbered ns ps → (i n : ℕ) → slice_get ns i ≡ Some n → n < 16000
number_below ns ps ok i n e = let g = got ns i n e in let b = ok.back i g.0 in let f = ok.few in omega (arith, b.0, g.1, f)

pair_below : (ns ps : List ℕ) → IsNumbered ns ps → (i j : ℕ) (p : ℕ × ℕ) → pair_at ns i j ≡ Some p → (p.0 < 16000) × (p.1 < 16000)
pair_below ns ps ok i j p e = let b = both_got (slice_get ns i) (slice_get ns j) p e in (number_below ns ps ok i p.0 b.0, number_below ns ps ok j p.1 b.1)

module _ (rows cols : NumberedAxis) (ro : IsAxis rows) (co : IsAxis cols) where
  abbrev size : Size
  size = record { rows = length rows.slots; cols = length cols.slots }

  -- numbers are such as an address can spell
  pub numbering_mapped : (t : Tree Spot Span) → IsMapped (numbering rows cols) t
  numbering_mapped t =
      always (IsSpotMapped (numbering rows cols)) (IsSpanMapped (numbering rows cols))
      (λ s row col e f.
      let h = number_below rows.recs ro.1 ro.2.recs s.row row e in
      let k = number_below cols.recs co.1 co.2.recs s.col col f in
      (omega (arith, h), omega (arith, k)))
      (λ s rs cs e f.
      let h = pair_below rows.slots ro.0 ro.2.slots s.top s.bottom rs e in
      let k = pair_below cols.slots co.0 co.2.slots s.left s.right cs f in
      ((omega (arith, h.0), omega (arith, k.0)), (omega (arith, h.1), omega (arith, k.1)))) t

  cell_mapped : (s : Spot) → CellFits size s → remap_spot (numbering rows cols) s ≡ Some (cell_numbered rows cols s)
  cell_mapped s f =
      let r = there rows.recs s.row (let e = ro.2.as_many in let h = f.0 in omega (arith, e, h)) in
      let c = there cols.recs s.col (let e = co.2.as_many in let h = f.1 in omega (arith, e, h)) in
      λ i. option_and_then (λ row. option_map (λ col. spot_at s row col) (c i)) (r i)

  range_mapped : (s : Span) → RangeFits size s → remap_span (numbering rows cols) s ≡ Some (range_numbered rows cols s)
  range_mapped s f =
      let t = there rows.slots s.top f.0.0 in
      let b = there rows.slots s.bottom f.1.0 in
      let l = there cols.slots s.left f.0.1 in
      let r = there cols.slots s.right f.1.1 in
      λ i. option_and_then (λ rs. option_map (λ cs. span_at s rs cs) (option_and_then (λ m. option_map (λ n. (m, n)) (r i)) (l i))) (option_and_then (λ m. option_map (λ n. (m, n)) (b i)) (t i))

  pub numbering_renames : (t : Tree Spot Span) → EachReference (CellFits size) (RangeFits size) t → mapped (numbering rows cols) t ≡ rename_tree (cell_numbered rows cols) (range_numbered rows cols) t
  numbering_renames t f =
      remap_renames (remap_spot (numbering rows cols)) (remap_span (numbering rows cols)) (cell_numbered rows cols) (range_numbered rows cols) t
      (references_weaker (CellFits size) (RangeFits size) _ _ cell_mapped range_mapped t f)

  -- ---- what is numbered is inside
  rec_inside : (k : NumberedAxis) → IsAxis k → (p : ℕ) → p < length k.slots → rec_number k p < length k.slots
  rec_inside k ok p h = let e = ok.2.as_many in let b = ok.2.recs.back p (omega (arith, e, h)) in omega (arith, b.0, e)

  slot_inside : (k : NumberedAxis) → IsAxis k → (p : ℕ) → p < length k.slots → slot_number k p < length k.slots
  slot_inside k ok p h = (ok.2.slots.back p h).0

  either : (t : Bool) (m n l : ℕ) → m < l → n < l → cond t m n < l
  either true m n l h k = h
  either false m n l h k = k

  pub content_numbered_fits : (c : Content) → ContentFits size c → ContentFits size (content_numbered rows cols c)
  content_numbered_fits content.Empty f = tt
  content_numbered_fits (content.Num z) f = tt
  content_numbered_fits (content.Text t) f = tt
  content_numbered_fits (content.Formula t) f =
      references_after (cell_numbered rows cols) (range_numbered rows cols) (CellFits size) (RangeFits size) (CellFits size) (RangeFits size)
      (λ s g. (rec_inside rows ro s.row g.0, rec_inside cols co s.col g.1))
      (λ s g.
      let t = slot_inside rows ro s.top g.0.0 in
      let b = slot_inside rows ro s.bottom g.1.0 in
      let l = slot_inside cols co s.left g.0.1 in
      let r = slot_inside cols co s.right g.1.1 in
      ((either _ _ _ _ t b, either _ _ _ _ l r), (either _ _ _ _ b t, either _ _ _ _ r l))) t f

  pub puts_numbered_fit : (ps : List Put) → AllFit size ps → AllFit size (map (put_numbered rows cols) ps)
  puts_numbered_fit [] f = tt
  puts_numbered_fit (p ∷ ps) f = (rec_inside rows ro p.row f.0, rec_inside cols co p.col f.1, content_numbered_fits p.content f.2, puts_numbered_fit ps f.3)
