-- The numbers of all passes, seat by seat.
use Rattle.std.proofs.Common.{◌≡◌, ◌≢◌, ℕ, zero, suc, ◌+◌, ◌<◌, ◌≤◌, Bool, true, false, cond, List, [], ◌∷◌, ◌++◌, length, map, get_or, refl, ap, sym, ◌∙◌, subst, arith, append_assoc}
use Rattle.std.specs.Prelude.{All, IsPermutation, nat_eq, slice_set}
use Rattle.std.specs.List.{range_with_len, count_by, sum_by}
use Rattle.std.proofs.lemmas.List.{map-append, set-set, set_comm}
use Rattle.std.proofs.lemmas.List.Sums.{sum_by-cons, sum_by-append, get_or-le-sum_by}
use Rattle.std.proofs.lemmas.List.Sorted.{IsPermutation-refl, IsPermutation-sym, IsPermutation-trans, IsPermutation-append_right, IsPermutation-append_left, IsPermutation-append_comm, IsPermutation-to_front, sum_by-IsPermutation}
use Rattle.std.proofs.lemmas.Bool.Decides.{nat_tests}
use mathlib.Core.Option.{some}
use lib.ListN.{get_elem?}
use Rattle.atomic_table.proofs.Lists.{set_else, set_again, set_here}
use Rattle.turn_book.specs.declared.turns.Standing.{Standing}
use Rattle.turn_book.specs.declared.turns.Knowledge.{Knowledge}
use Rattle.turn_book.specs.Turns.{numbers_of, resting, spent, both_views}

-- lists of numbers that have the same ones
module _ {A : Type 0} where
  -- by an equation at either end
  pub same_left : (xs ys zs : List A) → xs ≡ ys → IsPermutation ys zs → IsPermutation xs zs
  same_left xs ys zs e p = subst (λ (ws : List A). IsPermutation ws zs) (sym e) p

  pub same_right : (xs ys zs : List A) → ys ≡ zs → IsPermutation xs ys → IsPermutation xs zs
  same_right xs ys zs e p = subst (λ (ws : List A). IsPermutation xs ws) e p

  pub exchanged : (xs ys zs : List A) → IsPermutation (xs ++ (ys ++ zs)) (ys ++ (xs ++ zs))
  exchanged xs ys zs =
      same_left (xs ++ (ys ++ zs)) ((xs ++ ys) ++ zs) (ys ++ (xs ++ zs)) (sym (append_assoc xs ys zs))
      (same_right ((xs ++ ys) ++ zs) ((ys ++ xs) ++ zs) (ys ++ (xs ++ zs)) (append_assoc ys xs zs)
      (IsPermutation-append_left zs (xs ++ ys) (ys ++ xs) (IsPermutation-append_comm xs ys)))

-- no number stands twice in a range
none_below : (k a n : ℕ) → k < a → count_by (λ (m : ℕ). nat_eq m k) (range_with_len a n) ≡ 0
none_below k a zero small = refl
none_below k a (suc n) small =
    let rest : count_by (λ (m : ℕ). nat_eq m k) (range_with_len (a + 1) n) ≡ 0 = none_below k (a + 1) n (omega arith) in
    sum_by-cons (λ (m : ℕ). cond (nat_eq m k) 1 0) a (range_with_len (a + 1) n) ∙ grind (arith, nat_tests)

at_most_once : (k a n : ℕ) → count_by (λ (m : ℕ). nat_eq m k) (range_with_len a n) ≤ 1
at_most_once k a zero = omega arith
at_most_once k a (suc n) = by_test (nat_eq a k) refl (at_most_once k (a + 1) n)
  where
    by_test : (t : Bool) → nat_eq a k ≡ t → count_by (λ (m : ℕ). nat_eq m k) (range_with_len (a + 1) n) ≤ 1 → count_by (λ (m : ℕ). nat_eq m k) (range_with_len a (suc n)) ≤ 1
    by_test true e _ =
        let rest : count_by (λ (m : ℕ). nat_eq m k) (range_with_len (a + 1) n) ≡ 0 = none_below k (a + 1) n (grind (arith, nat_tests)) in
        rw (sum_by-cons (λ (m : ℕ). cond (nat_eq m k) 1 0) a (range_with_len (a + 1) n), e) (omega arith)
    by_test false e rest =
        rw (sum_by-cons (λ (m : ℕ). cond (nat_eq m k) 1 0) a (range_with_len (a + 1) n), e) (omega arith)

-- of numbers that are those of a range in some order, none stands twice
pub others_differ : (passes k : ℕ) (ks rest : List ℕ) → IsPermutation (range_with_len 0 passes) (k ∷ (ks ++ rest)) → All (λ (m : ℕ). m ≢ k) ks
others_differ passes k ks rest p i d small same =
    let f : ℕ → ℕ = λ (m : ℕ). cond (nat_eq m k) 1 0 in
    let once : sum_by f (range_with_len 0 passes) ≤ 1 = at_most_once k 0 passes in
    let all : sum_by f (k ∷ (ks ++ rest)) ≡ sum_by f (range_with_len 0 passes) = sum_by-IsPermutation f (range_with_len 0 passes) (k ∷ (ks ++ rest)) p in
    let first : sum_by f (k ∷ (ks ++ rest)) ≡ f k + sum_by f (ks ++ rest) = sum_by-cons f k (ks ++ rest) in
    let standings : sum_by f (ks ++ rest) ≡ sum_by f ks + sum_by f rest = sum_by-append f ks rest in
    let second : f (get_or ks i d) ≤ sum_by f ks = get_or-le-sum_by f ks i d small in
    let one = counts_itself k in
    let other = ap f same in
    absurd (omega arith)
  where
    counts_itself : (n : ℕ) → ◌≡◌ {A = ℕ} (cond (nat_eq n n) 1 0) 1
    counts_itself n = grind (arith, nat_tests)

module _ {I : Type 0} where
  abbrev pub nums : Knowledge I → List ℕ
  nums v = map (λ (p : Standing I). p.number) v.standings

  pub numbers_of-append : (vs ws : List (Knowledge I)) → numbers_of (vs ++ ws) ≡ numbers_of vs ++ numbers_of ws
  numbers_of-append [] ws = refl
  numbers_of-append (v ∷ vs) ws = ap (λ (ns : List ℕ). nums v ++ ns) (numbers_of-append vs ws) ∙ sym (append_assoc (nums v) (numbers_of vs) (numbers_of ws))

  pub within : (views : List (Knowledge I)) (id : ℕ) (v : Knowledge I) → get_elem? views id ≡ some v → id < length views
  within [] id v there = absurd (cc)
  within (x ∷ xs) zero v there = omega arith
  within (x ∷ xs) (suc id) v there = let small = within xs id v there in omega arith

  -- a seat that keeps its passes
  pub numbers_of-kept : (views : List (Knowledge I)) (id : ℕ) (v w : Knowledge I) → get_elem? views id ≡ some v → nums w ≡ nums v → numbers_of (slice_set views id w) ≡ numbers_of views
  numbers_of-kept [] id v w there same = absurd (cc)
  numbers_of-kept (x ∷ xs) zero v w there same =
      let is : x ≡ v = cc in
      ap (λ (ns : List ℕ). ns ++ numbers_of xs) (same ∙ ap (λ (u : Knowledge I). nums u) (sym is))
  numbers_of-kept (x ∷ xs) (suc id) v w there same = ap (λ (ns : List ℕ). nums x ++ ns) (numbers_of-kept xs id v w there same)

  -- the numbers of one seat, and then those of all others
  pub taken_out : (views : List (Knowledge I)) (id : ℕ) (v w : Knowledge I) → get_elem? views id ≡ some v → IsPermutation (numbers_of (slice_set views id w)) (nums w ++ numbers_of (slice_set views id spent))
  taken_out [] id v w there = absurd (cc)
  taken_out (x ∷ xs) zero v w there = IsPermutation-refl (nums w ++ numbers_of xs)
  taken_out (x ∷ xs) (suc id) v w there =
      let others : List ℕ = numbers_of (slice_set xs id spent) in
      IsPermutation-trans (nums x ++ numbers_of (slice_set xs id w)) (nums x ++ (nums w ++ others)) (nums w ++ (nums x ++ others))
      (IsPermutation-append_right (nums x) (numbers_of (slice_set xs id w)) (nums w ++ others) (taken_out xs id v w there))
      (exchanged (nums x) (nums w) others)

  pub seat_first : (views : List (Knowledge I)) (id : ℕ) (v : Knowledge I) → get_elem? views id ≡ some v → IsPermutation (numbers_of views) (nums v ++ numbers_of (slice_set views id spent))
  seat_first views id v there =
      same_left (numbers_of views) (numbers_of (slice_set views id v)) (nums v ++ numbers_of (slice_set views id spent))
      (ap (λ (vs : List (Knowledge I)). numbers_of vs) (sym (set_again views id v there))) (taken_out views id v v there)

  -- the numbers of two seats, and then those of all others
  pub two_first : (views : List (Knowledge I)) (id j : ℕ) (v u : Knowledge I) → get_elem? views id ≡ some v → get_elem? views j ≡ some u → j ≢ id →
      IsPermutation (numbers_of views) (nums v ++ (nums u ++ numbers_of (slice_set (slice_set views id spent) j spent)))
  two_first views id j v u there here apart =
      IsPermutation-trans (numbers_of views) (nums v ++ numbers_of (slice_set views id spent)) (nums v ++ (nums u ++ numbers_of (slice_set (slice_set views id spent) j spent)))
      (seat_first views id v there)
      (IsPermutation-append_right (nums v) (numbers_of (slice_set views id spent)) (nums u ++ numbers_of (slice_set (slice_set views id spent) j spent))
      (seat_first (slice_set views id spent) j u (set_else views id j spent apart ∙ here)))

  -- a seat's first pass goes to a new seat
  pub numbers_of-split : (views : List (Knowledge I)) (id : ℕ) (v : Knowledge I) (p : Standing I) (ps : List (Standing I)) → get_elem? views id ≡ some v → v.standings ≡ p ∷ ps →
      IsPermutation (numbers_of views) (numbers_of (slice_set views id (resting ps) ++ resting (p ∷ []) ∷ []))
  numbers_of-split views id v p ps there is =
      let others : List ℕ = numbers_of (slice_set views id spent) in
      let left : List ℕ = map (λ (q : Standing I). q.number) ps in
      let before : IsPermutation (numbers_of views) (p.number ∷ (left ++ others)) =
      same_right (numbers_of views) (nums v ++ others) (p.number ∷ (left ++ others)) (ap (λ (qs : List (Standing I)). map (λ (q : Standing I). q.number) qs ++ others) is) (seat_first views id v there) in
      let after : IsPermutation (numbers_of (slice_set views id (resting ps)) ++ p.number ∷ []) (p.number ∷ (left ++ others)) =
      IsPermutation-trans (numbers_of (slice_set views id (resting ps)) ++ p.number ∷ []) ((left ++ others) ++ p.number ∷ []) (p.number ∷ (left ++ others))
      (IsPermutation-append_left (p.number ∷ []) (numbers_of (slice_set views id (resting ps))) (left ++ others) (taken_out views id v (resting ps) there))
      (IsPermutation-to_front (left ++ others) p.number) in
      IsPermutation-trans (numbers_of views) (p.number ∷ (left ++ others)) (numbers_of (slice_set views id (resting ps) ++ resting (p ∷ []) ∷ [])) before
      (same_right (p.number ∷ (left ++ others)) (numbers_of (slice_set views id (resting ps)) ++ p.number ∷ []) (numbers_of (slice_set views id (resting ps) ++ resting (p ∷ []) ∷ []))
      (sym (numbers_of-append (slice_set views id (resting ps)) (resting (p ∷ []) ∷ [])))
      (IsPermutation-sym (numbers_of (slice_set views id (resting ps)) ++ p.number ∷ []) (p.number ∷ (left ++ others)) after))

  -- a seat's passes go to another
  pub numbers_of-joined : (views : List (Knowledge I)) (id other : ℕ) (v w : Knowledge I) → get_elem? views id ≡ some v → get_elem? (slice_set views id (both_views v w)) other ≡ some w → other ≢ id →
      IsPermutation (numbers_of views) (numbers_of (slice_set (slice_set views id (both_views v w)) other spent))
  numbers_of-joined views id other v w there here apart =
      let both : Knowledge I = both_views v w in
      let others : List ℕ = numbers_of (slice_set (slice_set views id spent) other spent) in
      let after : List (Knowledge I) = slice_set (slice_set views id both) other spent in
      let here_before : get_elem? views other ≡ some w = sym (set_else views id other both apart) ∙ here in
      let at_id : get_elem? after id ≡ some both = set_else (slice_set views id both) other id spent (λ e. apart (sym e)) ∙ set_here views id both (within views id v there) in
      let rest : slice_set after id spent ≡ slice_set (slice_set views id spent) other spent =
      set_comm (slice_set views id both) other id spent spent apart ∙ ap (λ (vs : List (Knowledge I)). slice_set vs other spent) (set-set views id both spent) in
      let both_is : nums both ≡ nums w ++ nums v = map-append (λ (p : Standing I). p.number) w.standings v.standings in
      let after_is : IsPermutation (numbers_of after) (nums w ++ (nums v ++ others)) =
      same_right (numbers_of after) (nums both ++ numbers_of (slice_set after id spent)) (nums w ++ (nums v ++ others))
      (ap (λ (vs : List (Knowledge I)). nums both ++ numbers_of vs) rest ∙ (ap (λ (ns : List ℕ). ns ++ others) both_is ∙ append_assoc (nums w) (nums v) others))
      (seat_first after id both at_id) in
      IsPermutation-trans (numbers_of views) (nums w ++ (nums v ++ others)) (numbers_of after)
      (IsPermutation-trans (numbers_of views) (nums v ++ (nums w ++ others)) (nums w ++ (nums v ++ others)) (two_first views id other v w there here_before apart) (exchanged (nums v) (nums w) others))
      (IsPermutation-sym (numbers_of after) (nums w ++ (nums v ++ others)) after_is)
