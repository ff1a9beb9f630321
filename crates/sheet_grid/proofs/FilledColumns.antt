-- The columns under which a row's map has a key, all of them and the visible ones, are those to which its keys lead, in
-- ascending order.
use Rattle.std.proofs.Common.{Ordering, Less, Equal, Greater, ◌≡◌, ◌≢◌, ℕ, zero, suc, ◌+◌, ◌<◌, ◌≤◌, Bool, true, false, cond, List, [], ◌∷◌, length, get_or, refl, ap, sym, ◌∙◌, subst, arith, inl, inr, Option, Some, None, eqb}
use Rattle.std.specs.Prelude.{◌⊎◌, ◌&&◌, ◌||◌, nat_eq, filter, filter_map, slice_index, slice_index_or, unwrap_or, is_some, AllPairs, IsPermutation, IsSorted}
use Rattle.std.specs.List.{AllByRecursion, IsDistinct}
use Rattle.std.specs.List.Sorted.{IsStrictlySortedBy}
use Rattle.std.specs.Ordering.{nat_cmp, is_eq, MatchOrdering}
use Rattle.std.specs.Map.{keys_of, lookup}
use Rattle.std.specs.BTreeMap.{BTreeMap, keys, is_at, IsOrdered}
use Rattle.std.proofs.lemmas.Bool.{cases_lt, ne_eqb}
use Rattle.std.proofs.lemmas.Bool.Decides.{nat_tests}
use Rattle.std.proofs.lemmas.Cmp.{ranked}
use Rattle.std.proofs.lemmas.List.{get_or_default}
use Rattle.std.proofs.lemmas.List.Kept.{AllPairs-filter, AllPairs-cons, AllPairs-from_increasing}
use Rattle.std.proofs.lemmas.List.Sorted.{IsNonDecreasingBy-from_sort, Contains-permutation, IsPermutation-sym}
use Rattle.std.proofs.lemmas.Map.Keys.{sorted_head, sorted_tail, IsDistinct-cons, IsDistinct-IsPermutation, IsStrictlyIncreasing-from_distinct}
use Rattle.marked_lines.specs.Marks.{visible_places, visible_before, places_from}
use Rattle.marked_lines.proofs.Positions.{places_from-low}
use Rattle.marked_lines.proofs.Indexes.{place_of_shown, index_from_place}
use Rattle.sheet_ops.specs.declared.content.Content.{Content}
use Rattle.sheet_ops.specs.Lines.{has_number}
use Rattle.sheet_ops.proofs.Ids.{same_number, number_self}
use Rattle.sheet_ops.specs.Transforms.{numbers_from}
use Rattle.sheet_ops.proofs.Members.{has_contains, contains_has, has_filter, ascending_same, other_number}
use Rattle.sheet_grid.specs.Kept.{NumberedAxis, held, rec_number}
use Rattle.sheet_grid.specs.Numbering.{IsAxis, place_of_rec, is_dead, live_place}
use Rattle.sheet_grid.proofs.Compared.{above_test}
use Rattle.sheet_grid.proofs.NumberPlaces.{rec_at-place, recs_count, marks_count}
use Rattle.sheet_grid.proofs.MovedRecords.{mark_at}
use Rattle.sheet_grid.proofs.InsertedNumbers.{numbered_apart}
use Rattle.sheet_grid.proofs.ToNumbers.{got, there}

-- ---- tests
bool_cases : (t : Bool) → (t ≡ true) ⊎ (t ≡ false)
bool_cases true = inl refl
bool_cases false = inr refl

same_tests : (s t : Bool) → (s ≡ true → t ≡ true) → (t ≡ true → s ≡ true) → s ≡ t
same_tests true true f g = refl
same_tests true false f g = sym (f refl)
same_tests false true f g = g refl
same_tests false false f g = refl

both_tests : (s t : Bool) → s && t ≡ true → (s ≡ true) × (t ≡ true)
both_tests true true e = (refl, refl)
both_tests true false e = absurd (cc)
both_tests false t e = absurd (cc)

or_right : (s t : Bool) → t ≡ true → s || t ≡ true
or_right true t e = refl
or_right false t e = e

clash : {P : Type 0} → true ≡ false → P
clash e = absurd (cc)

none_distinct : IsDistinct eqb []
unfolding IsDistinct
none_distinct = tt

-- ---- numbers to which others lead
module _ (f : ℕ → Option ℕ) where
  led_to : (ns : List ℕ) (n p : ℕ) → has_number ns n ≡ true → f n ≡ Some p → has_number (filter_map f ns) p ≡ true
  led_to [] n p h e = clash (sym h)
  led_to (m ∷ ns) n p h e = by_head (bool_cases (nat_eq m n)) (λ g. led_to ns n p g e)
    where
      later : (o : Option ℕ) → f m ≡ o → has_number (filter_map f ns) p ≡ true → has_number (filter_map f (m ∷ ns)) p ≡ true
      later None at rest = rw at rest
      later (Some q) at rest = rw at (or_right (nat_eq q p) (has_number (filter_map f ns) p) rest)

      by_head : ((nat_eq m n ≡ true) ⊎ (nat_eq m n ≡ false)) → (has_number ns n ≡ true → has_number (filter_map f ns) p ≡ true) → has_number (filter_map f (m ∷ ns)) p ≡ true
      by_head (inl s) rest =
          let at : f m ≡ Some p = ap f (same_number m n s) ∙ e in
          rw at (ap (λ (t : Bool). t || has_number (filter_map f ns) p) (number_self p))
      by_head (inr s) rest = later (f m) refl (rest (ap (λ (t : Bool). t || has_number ns n) (sym s) ∙ h))

  led_from : (ns : List ℕ) (p : ℕ) → has_number (filter_map f ns) p ≡ true → (n : ℕ) × (has_number ns n ≡ true) × (f n ≡ Some p)
  led_from [] p h = clash (sym h)
  led_from (m ∷ ns) p h = by_first (f m) refl (λ g. more (led_from ns p g))
    where
      more : (n : ℕ) × (has_number ns n ≡ true) × (f n ≡ Some p) → (n : ℕ) × (has_number (m ∷ ns) n ≡ true) × (f n ≡ Some p)
      more (n, there, at) = (n, or_right (nat_eq m n) (has_number ns n) there, at)

      by_test : (q : ℕ) → f m ≡ Some q → nat_eq q p || has_number (filter_map f ns) p ≡ true → (has_number (filter_map f ns) p ≡ true → (n : ℕ) × (has_number (m ∷ ns) n ≡ true) × (f n ≡ Some p)) →
          ((nat_eq q p ≡ true) ⊎ (nat_eq q p ≡ false)) → (n : ℕ) × (has_number (m ∷ ns) n ≡ true) × (f n ≡ Some p)
      by_test q at g rest (inl s) = (m, ap (λ (t : Bool). t || has_number ns m) (number_self m), at ∙ ap Some (same_number q p s))
      by_test q at g rest (inr s) = rest (ap (λ (t : Bool). t || has_number (filter_map f ns) p) (sym s) ∙ g)

      by_first : (o : Option ℕ) → f m ≡ o → (has_number (filter_map f ns) p ≡ true → (n : ℕ) × (has_number (m ∷ ns) n ≡ true) × (f n ≡ Some p)) → (n : ℕ) × (has_number (m ∷ ns) n ≡ true) × (f n ≡ Some p)
      by_first None at rest = rest (rw at at h)
      by_first (Some q) at rest = by_test q at (rw at at h) rest (bool_cases (nat_eq q p))

  -- where no two lead to the same, none comes twice
  module _ (one : (m n p : ℕ) → f m ≡ Some p → f n ≡ Some p → m ≡ n) where
    not_above : (m : ℕ) (ns : List ℕ) → AllByRecursion (λ y. nat_cmp m y ≡ Less) ns → has_number ns m ≡ false
    not_above m [] all = refl
    not_above m (n ∷ ns) all =
        let lt : m < n = subst (λ o. MatchOrdering o (m < n) (m ≡ n) (n < m)) all.0 (ranked m n (nat_cmp m n) refl) in
        let off : nat_eq n m ≡ false = apart n m lt in
        ap (λ (t : Bool). t || has_number ns m) off ∙ not_above m ns all.1
      where
        apart : (a b : ℕ) → b < a → nat_eq a b ≡ false
        apart a b h = grind (arith, nat_tests)

    all_apart : (q : ℕ) (ys : List ℕ) → has_number ys q ≡ false → AllByRecursion (λ y. eqb q y ≡ false) ys
    all_apart q [] h = tt
    all_apart q (y ∷ ys) h = by_test (bool_cases (nat_eq y q)) (all_apart q ys)
      where
        by_test : ((nat_eq y q ≡ true) ⊎ (nat_eq y q ≡ false)) → (has_number ys q ≡ false → AllByRecursion (λ z. eqb q z ≡ false) ys) → AllByRecursion (λ z. eqb q z ≡ false) (y ∷ ys)
        by_test (inl s) rest = clash (sym (ap (λ (t : Bool). t || has_number ys q) s) ∙ h)
        by_test (inr s) rest = (
          ne_eqb q y (λ e. clash (sym (number_self y) ∙ (ap (nat_eq y) (sym e) ∙ s))),
          rest (ap (λ (t : Bool). t || has_number ys q) (sym s) ∙ h),
        )

    led_distinct : (ns : List ℕ) → IsStrictlySortedBy nat_cmp ns → IsDistinct eqb (filter_map f ns)
    led_distinct [] up = none_distinct
    led_distinct (m ∷ ns) up = by_first (f m) refl (led_distinct ns (sorted_tail nat_cmp m ns up))
      where
        fresh : (q : ℕ) → f m ≡ Some q → has_number (filter_map f ns) q ≡ false
        fresh q at = by_test (bool_cases (has_number (filter_map f ns) q))
          where
            by_test : ((has_number (filter_map f ns) q ≡ true) ⊎ (has_number (filter_map f ns) q ≡ false)) → has_number (filter_map f ns) q ≡ false
            by_test (inr s) = s
            by_test (inl s) =
                let (n, there, leads) = led_from ns q s in
                let again : has_number ns m ≡ true = ap (has_number ns) (one m n q at leads) ∙ there in
                clash (sym again ∙ not_above m ns (sorted_head nat_cmp m ns up))

        by_first : (o : Option ℕ) → f m ≡ o → IsDistinct eqb (filter_map f ns) → IsDistinct eqb (filter_map f (m ∷ ns))
        by_first None at rest = rw at rest
        by_first (Some q) at rest = rw at (IsDistinct-cons eqb q (filter_map f ns) (all_apart q (filter_map f ns) (fresh q at)) rest)

-- ---- visible positions
ascending_places : (o : ℕ) (marks : List Bool) → AllPairs (λ p q. p < q) (places_from o marks)
ascending_places o [] = λ i j d lt within. absurd (omega arith)
ascending_places o (true ∷ marks) = ascending_places (suc o) marks
ascending_places o (false ∷ marks) = AllPairs-cons (λ p q. p < q) o (places_from (suc o) marks) (λ k d within. let h = places_from-low (suc o) marks k d within in omega arith) (ascending_places (suc o) marks)

visible_has : (marks : List Bool) (p : ℕ) → slice_index_or marks p true ≡ false → has_number (visible_places marks) p ≡ true
visible_has marks p shown =
    let g = got (visible_places marks) (visible_before marks p) p (place_of_shown marks p shown) in
    contains_has (visible_places marks) p (visible_before marks p, g.0, get_or_default (visible_places marks) (visible_before marks p) p 0 g.0 ∙ g.1)

pub has_visible : (marks : List Bool) (p : ℕ) → has_number (visible_places marks) p ≡ true → slice_index_or marks p true ≡ false
has_visible marks p h =
    let (v, within, at) = has_contains (visible_places marks) p h in
    by_mark (slice_index_or marks p true) refl (index_from_place marks p v (there (visible_places marks) v within ∙ ap Some (get_or_default (visible_places marks) v 0 p within ∙ at)))
  where
    by_mark : {v : ℕ} (t : Bool) → slice_index_or marks p true ≡ t → cond t None (Some (visible_before marks p)) ≡ Some v → slice_index_or marks p true ≡ false
    by_mark true e f = absurd (cc)
    by_mark false e f = e

pub mark_there : (marks : List Bool) (p : ℕ) → slice_index_or marks p true ≡ false → p < length marks
mark_there [] p e = clash e
mark_there (m ∷ marks) zero e = omega arith
mark_there (m ∷ marks) (suc p) e = let h = mark_there marks p e in omega arith

-- ---- the keys of a map
eq_test : (a b : ℕ) → nat_eq a b ≡ is_eq (nat_cmp b a)
eq_test a b = by_rank (nat_cmp b a) refl
  where
    by_rank : (r : Ordering) → r ≡ nat_cmp b a → nat_eq a b ≡ is_eq r
    by_rank Less e = let h : b < a = ranked b a Less e in grind (arith, nat_tests)
    by_rank Equal e = let h : b ≡ a = ranked b a Equal e in grind (arith, nat_tests)
    by_rank Greater e = let h : a < b = ranked b a Greater e in grind (arith, nat_tests)

key_held : (es : List (ℕ × Content)) (n : ℕ) → has_number (keys_of es) n ≡ is_some (lookup (is_at (nat_cmp n)) es)
key_held [] n = refl
key_held (e ∷ es) n = ap (λ (t : Bool). t || has_number (keys_of es) n) (eq_test e.0 n) ∙ by_test (is_eq (nat_cmp n e.0)) (key_held es n)
  where
    by_test : (t : Bool) → has_number (keys_of es) n ≡ is_some (lookup (is_at (nat_cmp n)) es) → t || has_number (keys_of es) n ≡ is_some (cond t (Some e.1) (lookup (is_at (nat_cmp n)) es))
    by_test true rest = refl
    by_test false rest = rest

-- ---- positions to which the keys of a map lead, each from the number of what stands there
module _ (f : ℕ → Option ℕ) (number : ℕ → ℕ) (places : List ℕ) (rising : AllPairs (λ p q. p < q) places)
    (at : (p : ℕ) → has_number places p ≡ true → f (number p) ≡ Some p) (from : (n p : ℕ) → f n ≡ Some p → (number p ≡ n) × (has_number places p ≡ true))
    (m : BTreeMap ℕ Content) (up : IsOrdered nat_cmp m) where
  led_one : (i n p : ℕ) → f i ≡ Some p → f n ≡ Some p → i ≡ n
  led_one i n p d e = sym (from i p d).0 ∙ (from n p e).0

  pub led_are : (xs ys : List ℕ) → xs ≡ filter_map f (keys m) → IsPermutation xs ys → IsSorted nat_cmp ys → ys ≡ filter (λ p. is_some (held m (number p))) places
  led_are xs ys is perm sorted =
      ascending_same ys (filter (λ p. is_some (held m (number p))) places) ascending
      (AllPairs-filter (λ p q. p < q) (λ p. is_some (held m (number p))) places rising) (λ p.
      same_tests (has_number ys p) (has_number (filter (λ q. is_some (held m (number q))) places) p) (there p) (back p))
    where
      distinct : IsDistinct eqb xs
      distinct = subst (IsDistinct eqb) (sym is) (led_distinct f led_one (keys m) up)

      ascending : AllPairs (λ p q. p < q) ys
      ascending = AllPairs-from_increasing ys (IsStrictlyIncreasing-from_distinct ys (IsNonDecreasingBy-from_sort (λ p. p) ys sorted) (IsDistinct-IsPermutation eqb (λ a b. turned a b) xs ys perm distinct))
        where
          turned : (a b : ℕ) → eqb a b ≡ eqb b a
          turned a b = grind (arith, nat_tests)

      there : (p : ℕ) → has_number ys p ≡ true → has_number (filter (λ q. is_some (held m (number q))) places) p ≡ true
      there p h =
          let into : has_number xs p ≡ true = contains_has xs p (Contains-permutation ys xs p (IsPermutation-sym xs ys perm) (has_contains ys p h)) in
          let (n, key, leads) = led_from f (keys m) p (ap (λ (zs : List ℕ). has_number zs p) (sym is) ∙ into) in
          let (stands, shown) = from n p leads in
          has_filter (λ q. is_some (held m (number q))) places p
          ∙ (ap (λ (t : Bool). t && is_some (held m (number p))) shown
          ∙ (ap (λ (j : ℕ). is_some (held m j)) stands ∙ (sym (key_held m.entries n) ∙ key)))

      back : (p : ℕ) → has_number (filter (λ q. is_some (held m (number q))) places) p ≡ true → has_number ys p ≡ true
      back p h =
          let (seen, kept) = both_tests (has_number places p) (is_some (held m (number p))) (sym (has_filter (λ q. is_some (held m (number q))) places p) ∙ h) in
          let into : has_number xs p ≡ true =
          ap (λ (zs : List ℕ). has_number zs p) is ∙ led_to f (keys m) (number p) p (key_held m.entries (number p) ∙ kept) (at p seen) in
          contains_has ys p (Contains-permutation xs ys p perm (has_contains xs p into))

-- ---- all positions
numbers_rising : (first count : ℕ) → AllPairs (λ p q. p < q) (numbers_from first count)
numbers_rising first zero = λ i j d lt within. absurd (omega arith)
numbers_rising first (suc count) =
    AllPairs-cons (λ p q. p < q) first (numbers_from (suc first) count) (λ k d within. let h = low (suc first) count k d within in omega arith) (numbers_rising (suc first) count)
  where
    low : (first count k d : ℕ) → k < length (numbers_from first count) → first ≤ get_or (numbers_from first count) k d
    low first zero k d h = absurd (omega arith)
    low first (suc count) zero d h = omega arith
    low first (suc count) (suc k) d h = let r = low (suc first) count k d (omega arith) in omega arith

pub number_has : (first count p : ℕ) → first ≤ p → p < first + count → has_number (numbers_from first count) p ≡ true
number_has first zero p from below = absurd (omega arith)
number_has first (suc count) p from below = by_head (bool_cases (nat_eq first p)) (λ beyond. number_has (suc first) count p beyond (omega (arith, below)))
  where
    by_head : ((nat_eq first p ≡ true) ⊎ (nat_eq first p ≡ false)) → (suc first ≤ p → has_number (numbers_from (suc first) count) p ≡ true) → nat_eq first p || has_number (numbers_from (suc first) count) p ≡ true
    by_head (inl e) rest = ap (λ (t : Bool). t || has_number (numbers_from (suc first) count) p) e
    by_head (inr e) rest = or_right (nat_eq first p) (has_number (numbers_from (suc first) count) p) (rest (let h = other_number first p e in beyond first p from h))
      where
        beyond : (m n : ℕ) → m ≤ n → m ≢ n → suc m ≤ n
        beyond m n h apart = grind (arith, nat_tests)

pub has_below : (first count p : ℕ) → has_number (numbers_from first count) p ≡ true → p < first + count
has_below first zero p h = clash (sym h)
has_below first (suc count) p h = by_head (bool_cases (nat_eq first p)) h (λ g. has_below (suc first) count p g)
  where
    by_head : ((nat_eq first p ≡ true) ⊎ (nat_eq first p ≡ false)) → nat_eq first p || has_number (numbers_from (suc first) count) p ≡ true → (has_number (numbers_from (suc first) count) p ≡ true → p < suc first + count) → p < first + suc count
    by_head (inl e) g rest = let s = same_number first p e in omega (arith, s)
    by_head (inr e) g rest = let b = rest (ap (λ (t : Bool). t || has_number (numbers_from (suc first) count) p) (sym e) ∙ g) in omega (arith, b)

-- ---- where the record with a number stands
module _ (k : NumberedAxis) (ax : IsAxis k) where
  dead_at : (p : ℕ) → p < length k.slots → is_dead k (slice_index k.recs p) ≡ slice_index_or k.marks p true
  dead_at p h =
      let e = recs_count k ax in
      let m = marks_count k ax in
      mark_at k.recs k.marks p ax.2.marked (omega (arith, e, h)) (numbered_apart k.recs ax.1 ax.2.recs) ∙ get_or_default k.marks p false true (omega (arith, m, h))

  live_at : (p : ℕ) → slice_index_or k.marks p true ≡ false → live_place k (slice_index k.recs p) ≡ Some p
  live_at p shown =
      let h : p < length k.slots = let i = mark_there k.marks p shown in let m = marks_count k ax in omega (arith, i, m) in
      ap (λ (t : Bool). cond t None (place_of_rec k (slice_index k.recs p))) (dead_at p h ∙ shown) ∙ rec_at-place k ax p h

  live_from : (n p : ℕ) → live_place k n ≡ Some p → (slice_index k.recs p ≡ n) × (slice_index_or k.marks p true ≡ false)
  live_from n p e = by_dead (is_dead k n) refl e (cases_lt n (length k.slots))
    where
      at_place : (q : ℕ) → q < length k.recs → slice_index k.recs q ≡ n → is_dead k n ≡ false → place_of_rec k n ≡ Some p → (slice_index k.recs p ≡ n) × (slice_index_or k.marks p true ≡ false)
      at_place q h at alive found =
          let h' : q < length k.slots = let c = recs_count k ax in omega (arith, c, h) in
          let same : q ≡ p = ap (λ (o : Option ℕ). unwrap_or o 0) (sym (ap (place_of_rec k) (sym at) ∙ rec_at-place k ax q h') ∙ found) in
          subst (λ (r : ℕ). (slice_index k.recs r ≡ n) × (slice_index_or k.marks r true ≡ false)) same (at, sym (dead_at q h') ∙ (ap (is_dead k) at ∙ alive))

      by_dead : (t : Bool) → is_dead k n ≡ t → cond t None (place_of_rec k n) ≡ Some p → ((n < length k.slots) ⊎ (length k.slots ≤ n)) → (slice_index k.recs p ≡ n) × (slice_index_or k.marks p true ≡ false)
      by_dead true d f side = absurd (cc)
      by_dead false d f (inr above) = absurd (let off : place_of_rec k n ≡ None = rw (above_test n (length k.slots) above) refl in cc)
      by_dead false d f (inl below) = let (h, at) = ax.2.recs.forth n (let c = recs_count k ax in omega (arith, c, below)) in at_place (slice_index ax.1 n) h at d f

  rec_from : (n p : ℕ) → place_of_rec k n ≡ Some p → (slice_index k.recs p ≡ n) × (has_number (numbers_from 0 (length k.slots)) p ≡ true)
  rec_from n p e = by_side e (cases_lt n (length k.slots))
    where
      at_place : (q : ℕ) → q < length k.recs → slice_index k.recs q ≡ n → place_of_rec k n ≡ Some p → (slice_index k.recs p ≡ n) × (has_number (numbers_from 0 (length k.slots)) p ≡ true)
      at_place q h stands found =
          let h' : q < length k.slots = let c = recs_count k ax in omega (arith, c, h) in
          let same : q ≡ p = ap (λ (o : Option ℕ). unwrap_or o 0) (sym (ap (place_of_rec k) (sym stands) ∙ rec_at-place k ax q h') ∙ found) in
          subst (λ (r : ℕ). (slice_index k.recs r ≡ n) × (has_number (numbers_from 0 (length k.slots)) r ≡ true)) same (stands, number_has 0 (length k.slots) q (omega arith) (omega (arith, h')))

      by_side : place_of_rec k n ≡ Some p → ((n < length k.slots) ⊎ (length k.slots ≤ n)) → (slice_index k.recs p ≡ n) × (has_number (numbers_from 0 (length k.slots)) p ≡ true)
      by_side f (inr above) = absurd (let off : place_of_rec k n ≡ None = rw (above_test n (length k.slots) above) refl in cc)
      by_side f (inl below) = let (h, stands) = ax.2.recs.forth n (let c = recs_count k ax in omega (arith, c, below)) in at_place (slice_index ax.1 n) h stands f

  -- ---- together
  module _ (m : BTreeMap ℕ Content) (up : IsOrdered nat_cmp m) where
    pub filled_are : (xs ys : List ℕ) → xs ≡ filter_map (live_place k) (keys m) → IsPermutation xs ys → IsSorted nat_cmp ys → ys ≡ filter (λ p. is_some (held m (rec_number k p))) (visible_places k.marks)
    filled_are =
        led_are (live_place k) (rec_number k) (visible_places k.marks) (ascending_places 0 k.marks) (λ p seen. live_at p (has_visible k.marks p seen))
        (λ n p leads. let (stands, shown) = live_from n p leads in (stands, visible_has k.marks p shown)) m up

    pub occupied_are : (xs ys : List ℕ) → xs ≡ filter_map (place_of_rec k) (keys m) → IsPermutation xs ys → IsSorted nat_cmp ys →
        ys ≡ filter (λ p. is_some (held m (rec_number k p))) (numbers_from 0 (length k.slots))
    occupied_are =
        led_are (place_of_rec k) (rec_number k) (numbers_from 0 (length k.slots)) (numbers_rising 0 (length k.slots))
        (λ p there. rec_at-place k ax p (let b = has_below 0 (length k.slots) p there in omega (arith, b))) rec_from m up
