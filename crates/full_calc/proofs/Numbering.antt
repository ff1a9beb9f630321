-- The number of a cell by identity.
use Rattle.std.proofs.Common.{◌≡◌, ℕ, zero, suc, ◌+◌, ◌<◌, Bool, true, false, cond, List, [], ◌∷◌, ◌++◌, length, map, refl, ap, sym, ◌∙◌, subst, arith, None, Option}
use Rattle.std.specs.Prelude.{◌&&◌, not, nat_le, flat_map, filter, filter_map, slice_index_or}
use Rattle.std.specs.List.{cons_option, AllByRecursion}
use Rattle.formula_tree.specs.Tree as tree
use Rattle.formula_tree.specs.Tree.{Tree, Trees, rename_tree}
use Rattle.ss_base.specs.declared.types.Spot.{Spot}
use Rattle.ss_base.specs.declared.types.Span.{Span}
use Rattle.marked_lines.specs.Marks.{places_from, visible_places, visible_before}
use Rattle.sheet_ops.specs.LineIds.{LineId, id_eq}
use Rattle.sheet_ops.specs.Lines.{AxisLine, Axis, place_where, rec_place, rec_at, marks, no_line}
use Rattle.sheet_ops.specs.Fits.{Avoids, AreApart, IsWellFormed}
use Rattle.sheet_ops.specs.Identity.{IdSheet, IdCell, IdRange}
use Rattle.sheet_ops.specs.Naming.{locate_cell, locate_range}
use Rattle.sheet_ops.proofs.Ids.{id_eq-self}
use Rattle.full_calc.specs.Precedents.{CellId, is_live, is_live_cell, mentioned, is_seen, places_between}
use Rattle.full_calc.specs.Positions.{places_in, places_in_all}
use Rattle.full_calc.proofs.Seen.{live_seen}
use Rattle.full_calc.proofs.Positions.{cell_there, places_mentioned}
use Rattle.sheet_graph.specs.Areas.{in_area, areas_in}
use Rattle.full_calc.proofs.Leads.{number_there, areas_lead}

-- ---- a position and the record there
avoided : (ls : List AxisLine) (id : LineId) (p : ℕ) → Avoids (λ l. l.rec) ls id → p < length ls → id_eq (slice_index_or ls p no_line).rec id ≡ false
avoided [] id p h k = absurd (omega arith)
avoided (l ∷ ls) id zero h k = h.0
avoided (l ∷ ls) id (suc p) h k = avoided ls id p h.1 (omega arith)

eq_turn : (a b : LineId) → id_eq a b ≡ id_eq b a
eq_turn a b = turned (id_eq a b) (id_eq b a) refl refl
  where
    turned : (x y : Bool) → id_eq a b ≡ x → id_eq b a ≡ y → id_eq a b ≡ id_eq b a
    turned true true e f = e ∙ sym f
    turned false false e f = e ∙ sym f
    turned true false e f = absurd (let s = Rattle.sheet_ops.proofs.Ids.id_eq-same a b e in let q : id_eq b a ≡ true = (λ i. id_eq (sym s i) a) ∙ id_eq-self a in cc)
    turned false true e f = absurd (let s = Rattle.sheet_ops.proofs.Ids.id_eq-same b a f in let q : id_eq a b ≡ true = (λ i. id_eq (sym s i) b) ∙ id_eq-self b in cc)

place_back : (ls : List AxisLine) (p : ℕ) → AreApart (λ l. l.rec) ls → p < length ls → place_where (λ l. id_eq l.rec (slice_index_or ls p no_line).rec) ls ≡ p
place_back [] p h k = absurd (omega arith)
place_back (l ∷ ls) zero h k = ap (λ b. cond b 0 (suc (place_where (λ m. id_eq m.rec l.rec) ls))) (id_eq-self l.rec)
place_back (l ∷ ls) (suc p) h k =
    let other : id_eq l.rec (slice_index_or ls p no_line).rec ≡ false = eq_turn l.rec (slice_index_or ls p no_line).rec ∙ avoided ls l.rec p h.0 (omega arith) in
    ap (λ b. cond b 0 (suc (place_where (λ m. id_eq m.rec (slice_index_or ls p no_line).rec) ls))) other ∙ ap suc (place_back ls p h.1 (omega arith))

pub seen_below : (ls : List AxisLine) (dead : LineId → Bool) (p : ℕ) → is_seen (map (λ l. dead l.rec) ls) p ≡ true → p < length ls
seen_below [] dead p h = absurd (let e : false ≡ true = h in cc)
seen_below (l ∷ ls) dead zero h = omega arith
seen_below (l ∷ ls) dead (suc p) h = let k = seen_below ls dead p h in omega (arith, k)

pub place_there : (axis : Axis) → AreApart (λ l. l.rec) axis.lines → (p : ℕ) → is_seen (marks axis) p ≡ true → rec_place axis (rec_at axis p) ≡ p
place_there axis h p s = place_back axis.lines p h (seen_below axis.lines axis.dead p s)

pub live_there : (axis : Axis) → AreApart (λ l. l.rec) axis.lines → (p : ℕ) → is_seen (marks axis) p ≡ true → is_live axis (rec_at axis p) ≡ true
live_there axis h p s = sym (live_seen axis (rec_at axis p)) ∙ (ap (is_seen (marks axis)) (place_there axis h p s) ∙ s)

-- ---- the positions that a formula mentions are seen
module _ {A : Type 0} (Q : A → Type 0) where
  join_all : (xs ys : List A) → AllByRecursion Q xs → AllByRecursion Q ys → AllByRecursion Q (xs ++ ys)
  join_all [] ys h k = k
  join_all (x ∷ xs) ys h k = (h.0, join_all xs ys h.1 k)

  filter_all : (p : A → Bool) (xs : List A) → AllByRecursion Q xs → AllByRecursion Q (filter p xs)
  filter_all p [] h = tt
  filter_all p (x ∷ xs) h = by_test (p x) (filter_all p xs h.1)
    where
      by_test : (b : Bool) → AllByRecursion Q (filter p xs) → AllByRecursion Q (cond b (x ∷ filter p xs) (filter p xs))
      by_test true r = (h.0, r)
      by_test false r = r

visible_all : (Q : ℕ → Type 0) (o : ℕ) (ms : List Bool) → ((k : ℕ) → slice_index_or ms k true ≡ false → Q (o + k)) → AllByRecursion Q (places_from o ms)
visible_all Q o [] h = tt
visible_all Q o (true ∷ ms) h = visible_all Q (suc o) ms (λ k e. subst Q (let q : o + suc k ≡ suc o + k = omega arith in q) (h (suc k) e))
visible_all Q o (false ∷ ms) h = (subst Q (let q : o + 0 ≡ o = omega arith in q) (h 0 refl), visible_all Q (suc o) ms (λ k e. subst Q (let q : o + suc k ≡ suc o + k = omega arith in q) (h (suc k) e)))

between_seen : (ms : List Bool) (first last : ℕ) → AllByRecursion (λ p. is_seen ms p ≡ true) (places_between ms first last)
between_seen ms first last =
    filter_all (λ (p : ℕ). is_seen ms p ≡ true) (λ p. nat_le first p && nat_le p last) (visible_places ms)
    (visible_all (λ p. is_seen ms p ≡ true) 0 ms (λ k e. subst (λ j. is_seen ms j ≡ true) (let q : k ≡ 0 + k = omega arith in q) (ap not e)))

module _ (rows cols : List Bool) where
  abbrev pub AreSeen : ℕ × ℕ → Type 0
  AreSeen at = (is_seen rows at.0 ≡ true) × (is_seen cols at.1 ≡ true)

  row_seen : (p : ℕ) (qs : List ℕ) → is_seen rows p ≡ true → AllByRecursion (λ q. is_seen cols q ≡ true) qs → AllByRecursion AreSeen (map (λ (q : ℕ). (p, q)) qs)
  row_seen p [] h k = tt
  row_seen p (q ∷ qs) h k = ((h, k.0), row_seen p qs h k.1)

  rows_seen : (ps qs : List ℕ) → AllByRecursion (λ p. is_seen rows p ≡ true) ps → AllByRecursion (λ q. is_seen cols q ≡ true) qs → AllByRecursion AreSeen (flat_map (λ (p : ℕ). map (λ (q : ℕ). (p, q)) qs) ps)
  rows_seen [] qs h k = tt
  rows_seen (p ∷ ps) qs h k = join_all AreSeen (map (λ (q : ℕ). (p, q)) qs) (flat_map (λ (p : ℕ). map (λ (q : ℕ). (p, q)) qs) ps) (row_seen p qs h.0 k) (rows_seen ps qs h.1 k)

  cell_seen : (s : Spot) (a b : Bool) → is_seen rows s.row ≡ a → is_seen cols s.col ≡ b → AllByRecursion AreSeen (cond (a && b) ((s.row, s.col) ∷ []) [])
  cell_seen s true true e f = ((e, f), tt)
  cell_seen s true false e f = tt
  cell_seen s false b e f = tt

  mutual
    pub places_seen : (t : Tree Spot Span) → AllByRecursion AreSeen (places_in rows cols t)
    places_seen (tree.num n) = tt
    places_seen (tree.text t) = tt
    places_seen (tree.fault e) = tt
    places_seen (tree.cell s) = cell_seen s (is_seen rows s.row) (is_seen cols s.col) refl refl
    places_seen (tree.range s) = rows_seen (places_between rows s.top s.bottom) (places_between cols s.left s.right) (between_seen rows s.top s.bottom) (between_seen cols s.left s.right)
    places_seen (tree.pre op t) = places_seen t
    places_seen (tree.bin op s t) = join_all AreSeen (places_in rows cols s) (places_in rows cols t) (places_seen s) (places_seen t)
    places_seen (tree.call f ts) = all_seen ts

    all_seen : (ts : Trees Spot Span) → AllByRecursion AreSeen (places_in_all rows cols ts)
    all_seen tree.none = tt
    all_seen (tree.more t ts) = join_all AreSeen (places_in rows cols t) (places_in_all rows cols ts) (places_seen t) (all_seen ts)

module _ (X : IdSheet) (N : ℕ → ℕ → Option ℕ) where
  -- the number of a live cell by the visible indexes of its lines
  abbrev pub number_of : CellId → Option ℕ
  number_of c = cond (is_live_cell X c) (N (visible_before (marks X.rows) (rec_place X.rows c.row)) (visible_before (marks X.cols) (rec_place X.cols c.col))) None

  abbrev IsSeenAt : ℕ × ℕ → Type 0
  IsSeenAt at = AreSeen (marks X.rows) (marks X.cols) at

  module _ (w : IsWellFormed X) where
    pub number_at : (at : ℕ × ℕ) → IsSeenAt at → number_of (cell_there X at) ≡ number_there N (marks X.rows) (marks X.cols) at
    number_at at h =
        let a = live_there X.rows w.rows.recs at.0 h.0 in
        let b = live_there X.cols w.cols.recs at.1 h.1 in
        (λ i. cond (a i && b i) (N (visible_before (marks X.rows) (rec_place X.rows (rec_at X.rows at.0))) (visible_before (marks X.cols) (rec_place X.cols (rec_at X.cols at.1)))) None)
        ∙ (λ i. N (visible_before (marks X.rows) (place_there X.rows w.rows.recs at.0 h.0 i)) (visible_before (marks X.cols) (place_there X.cols w.cols.recs at.1 h.1 i)))

    numbers_at : (ps : List (ℕ × ℕ)) → AllByRecursion IsSeenAt ps → filter_map number_of (map (cell_there X) ps) ≡ filter_map (number_there N (marks X.rows) (marks X.cols)) ps
    numbers_at [] h = refl
    numbers_at (p ∷ ps) h = λ i. cons_option (number_at p h.0 i) (numbers_at ps h.1 i)

    -- What the areas of a located formula hold are the numbers of what it mentions.
    pub numbers_lead : (t : Tree IdCell IdRange) →
        flat_map (in_area N) (areas_in (marks X.rows) (marks X.cols) (rename_tree (locate_cell X) (locate_range X) t)) ≡ filter_map number_of (mentioned X t)
    numbers_lead t =
        areas_lead N (marks X.rows) (marks X.cols) (rename_tree (locate_cell X) (locate_range X) t)
        ∙ (sym (numbers_at (places_in (marks X.rows) (marks X.cols) (rename_tree (locate_cell X) (locate_range X) t)) (places_seen (marks X.rows) (marks X.cols) (rename_tree (locate_cell X) (locate_range X) t)))
        ∙ ap (filter_map number_of) (places_mentioned X t))
