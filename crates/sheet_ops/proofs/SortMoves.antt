-- The permutation that a sort makes is the one that its numbers give.
use Rattle.std.proofs.Common.{◌≡◌, ℕ, zero, suc, ◌+◌, ◌<◌, ◌≤◌, ◌≢◌, Bool, true, false, cond, List, [], ◌∷◌, ◌++◌, length, take, get_or, refl, ap, sym, ◌∙◌, subst, arith, inl, inr, AllPairs, Contains}
use Rattle.std.specs.Prelude.{◌⊎◌, nat_eq, filter, Result, Ok, Err, is_ok, IfOk, MatchResult, slice_index, EachIndex}
use Rattle.std.specs.List.{zip}
use Rattle.std.specs.List.Sorted.{IsPermutation, IsNonDecreasing}
use Rattle.std.proofs.lemmas.Bool.{cases_lt}
use Rattle.std.proofs.lemmas.Bool.Decides.{nat_tests}
use Rattle.std.proofs.lemmas.List.{take_more}
use Rattle.std.proofs.lemmas.List.Elements.{filter-append}
use Rattle.std.proofs.lemmas.List.Sorted.{Contains-permutation, IsPermutation-sym}
use Rattle.std.proofs.lemmas.Map.Keys.{IsDistinct-from_apart, IsDistinct-IsPermutation, apart_from_distinct}
use Rattle.marked_lines.specs.Moves.{image, IsPerm}
use Rattle.marked_lines.proofs.Zips.{image_zip-at, image_zip-none, length_same}
use Rattle.marked_lines.proofs.Canonical.{moves_same}
use Rattle.sheet_ops.specs.Lines.{has_number, sort_moves}
use Rattle.sheet_ops.specs.Fits.{SortFits}
use Rattle.sheet_ops.proofs.Ids.{true_or_false}
use Rattle.sheet_ops.proofs.Members.{has_contains, contains_has, has_none, none_has, other_number, ascending_distinct, ascending_same, between}
use Rattle.sheet_ops.proofs.Sorts.{from_distinct, to_up, same_numbers}

same_at : (xs : List ℕ) (k d e : ℕ) → k < length xs → get_or xs k d ≡ get_or xs k e
same_at [] k d e within = absurd (omega arith)
same_at (x ∷ xs) zero d e within = refl
same_at (x ∷ xs) (suc k) d e within = same_at xs k d e (omega arith)

-- what a search in ascending numbers says
pub found_is : (xs : List ℕ) (n : ℕ) (r : Result ℕ ℕ) →
    MatchResult r (λ i. (i < length xs) × (get_or xs i 0 ≡ n)) (λ i. (i ≤ length xs) × ((k : ℕ) → k < i → get_or xs k 0 < n) × ((k : ℕ) → i ≤ k → k < length xs → n < get_or xs k 0)) → is_ok r ≡ has_number xs n
found_is xs n (Ok i) h = sym (contains_has xs n (i, h.0, same_at xs i n 0 h.0 ∙ h.1))
found_is xs n (Err i) h = sym (has_none xs n (λ k d within same. apart k d within same (cases_lt k i)))
  where
    apart : (k d : ℕ) → k < length xs → get_or xs k d ≡ n → ((k < i) ⊎ (i ≤ k)) → ⊥
    apart k d within same (inl lt) = let e = same_at xs k d 0 within in let b = h.1 k lt in omega (arith, e, b, same)
    apart k d within same (inr le) = let e = same_at xs k d 0 within in let b = h.2 k le within in omega (arith, e, b, same)

pub rises : (xs : List ℕ) → AllPairs (λ p q. p < q) xs → (i j : ℕ) → i ≤ j → j < length xs → get_or xs i 0 ≤ get_or xs j 0
rises xs up i j le within = by_side (cases_lt i j)
  where
    by_side : ((i < j) ⊎ (j ≤ i)) → get_or xs i 0 ≤ get_or xs j 0
    by_side (inl lt) = let b = up i j 0 lt within in omega (arith, b)
    by_side (inr ge) = let e : i ≡ j = omega arith in let same = ap (λ (k : ℕ). get_or xs k 0) e in omega (arith, same)

-- one more number of a loop that keeps some
pub filter_kept : (t : ℕ → Bool) (xs : List ℕ) (k x : ℕ) → k < length xs → x ≡ get_or xs k x → t x ≡ true → filter t (take (k + 1) xs) ≡ filter t (take k xs) ++ x ∷ []
filter_kept t xs k x within is h =
    ap (filter t) (take_more xs k x within ∙ ap (λ (y : ℕ). take k xs ++ y ∷ []) (sym is))
    ∙ (filter-append t (take k xs) (x ∷ []) ∙ ap (λ (b : Bool). filter t (take k xs) ++ cond b (x ∷ []) []) h)

pub filter_passed : (t : ℕ → Bool) (xs : List ℕ) (k x : ℕ) → k < length xs → x ≡ get_or xs k x → t x ≡ false → filter t (take (k + 1) xs) ≡ filter t (take k xs)
filter_passed t xs k x within is h =
    ap (filter t) (take_more xs k x within ∙ ap (λ (y : ℕ). take k xs ++ y ∷ []) (sym is))
    ∙ (filter-append t (take k xs) (x ∷ []) ∙ (ap (λ (b : Bool). filter t (take k xs) ++ cond b (x ∷ []) []) h ∙ append_none (filter t (take k xs))))
  where
    append_none : (ys : List ℕ) → ys ++ [] ≡ ys
    append_none [] = refl
    append_none (y ∷ ys) = ap (λ (zs : List ℕ). y ∷ zs) (append_none ys)

-- numbers that differ, sorted
pub sorted_up : (from to : List ℕ) → AllPairs (λ p q. p ≢ q) from → IsPermutation from to → IsNonDecreasing to → AllPairs (λ p q. p < q) to
sorted_up from to distinct perm rise i j d lt within =
    let apart = IsDistinct-IsPermutation nat_eq eq_swap from to perm (IsDistinct-from_apart nat_eq from (λ i j d lt within. unequal (get_or from i d) (get_or from j d) (distinct i j d lt within))) in
    let differ = other_number (get_or to i d) (get_or to j d) (apart_from_distinct nat_eq to i j d apart lt within) in
    let le = rise i j d (omega arith) within in
    below (get_or to i d) (get_or to j d) le differ
  where
    eq_swap : (m n : ℕ) → nat_eq m n ≡ nat_eq n m
    eq_swap m n = grind (arith, nat_tests)

    unequal : (m n : ℕ) → m ≢ n → nat_eq m n ≡ false
    unequal m n h = grind (arith, nat_tests)

    below : (m n : ℕ) → m ≤ n → m ≢ n → m < n
    below m n le h = grind arith

same_answer : (a b : Bool) → (a ≡ true → b ≡ true) → (b ≡ true → a ≡ true) → a ≡ b
same_answer true b f g = sym (f refl)
same_answer false true f g = g refl
same_answer false false f g = refl

permuted_has : (xs ys : List ℕ) → IsPermutation xs ys → (p : ℕ) → has_number xs p ≡ has_number ys p
permuted_has xs ys perm p = same_answer (has_number xs p) (has_number ys p)
    (λ h. contains_has ys p (Contains-permutation xs ys p perm (has_contains xs p h)))
    (λ h. contains_has xs p (Contains-permutation ys xs p (IsPermutation-sym xs ys perm) (has_contains ys p h)))

module _ (n : ℕ) (ss rs : List ℕ) (f : SortFits n ss rs) where
  abbrev from : List ℕ
  from = filter (has_number ss) rs

  abbrev to : List ℕ
  to = filter (has_number rs) ss

  pub sorted_is : (to' : List ℕ) → IsPermutation from to' → IsNonDecreasing to' → to' ≡ to
  sorted_is to' perm rise =
      ascending_same to' to (sorted_up from to' (from_distinct n ss rs f) perm rise) (to_up n ss rs f)
      (λ p. sym (permuted_has from to' perm p) ∙ same_numbers n ss rs f p)

  pub there : (p : ℕ) → Contains from p → Contains to p
  there p c = has_contains to p (sym (same_numbers n ss rs f p) ∙ contains_has from p c)

  pub back : (p : ℕ) → Contains to p → Contains from p
  back p c = has_contains from p (same_numbers n ss rs f p ∙ contains_has to p c)

  as_long : length from ≡ length to
  as_long = length_same from to (from_distinct n ss rs f) (ascending_distinct to (to_up n ss rs f)) there back

  pub perm_is : (r : List (ℕ × ℕ)) → IsPerm r → EachIndex from (λ k. image r (slice_index from k) ≡ slice_index to k) → ((p : ℕ) → ¬ Contains from p → image r p ≡ p) → r ≡ sort_moves ss rs
  perm_is r perm sends others =
      moves_same r (sort_moves ss rs) perm moves.0 (λ p. by_member p (true_or_false (has_number from p)) ∙ sym (moves.1 p))
    where
      moves : IsPerm (sort_moves ss rs) × ((p : ℕ) → image (sort_moves ss rs) p ≡ image (zip from to) p)
      moves = between from to (from_distinct n ss rs f) (to_up n ss rs f) (same_numbers n ss rs f)

      by_member : (p : ℕ) → ((has_number from p ≡ true) ⊎ (has_number from p ≡ false)) → image r p ≡ image (zip from to) p
      by_member p (inl e) =
          let (k, within, at) = has_contains from p e in
          let here : slice_index from k ≡ p = same_at from k 0 p within ∙ at in
          ap (image r) (sym here) ∙ (sends k within ∙ (sym (image_zip-at from to (from_distinct n ss rs f) as_long k within) ∙ ap (image (zip from to)) here))
      by_member p (inr e) =
          others p (λ c. let clash : true ≡ false = sym (contains_has from p c) ∙ e in absurd (cc))
          ∙ sym (image_zip-none from to p (none_has from p e))

  -- what the call that makes a permutation answers
  pub perm_answered : {E : Type 0} (r : Result (List (ℕ × ℕ)) E) (xs ys : List ℕ) → xs ≡ from → ys ≡ to → IfOk r IsPerm → IfOk r (λ p. EachIndex xs (λ k. image p (slice_index xs k) ≡ slice_index ys k)) →
      IfOk r (λ p. (q : ℕ) → ¬ Contains xs q → image p q ≡ q) → IfOk r (λ p. p ≡ sort_moves ss rs)
  perm_answered (Err x) xs ys e f perm sends others = tt
  perm_answered (Ok p) xs ys e f perm sends others =
      perm_is p perm
      (subst (λ (zs : List ℕ). EachIndex from (λ k. image p (slice_index from k) ≡ slice_index zs k)) f (subst (λ (zs : List ℕ). EachIndex zs (λ k. image p (slice_index zs k) ≡ slice_index ys k)) e sends))
      (subst (λ (zs : List ℕ). (q : ℕ) → ¬ Contains zs q → image p q ≡ q) e others)
