-- Parts of a list made from a function of the place.
use Rattle.std.proofs.Common.{◌≡◌, ℕ, zero, suc, ◌+◌, ◌-◌, ◌≤◌, List, [], ◌∷◌, ◌++◌, map, take, drop, ap, sym, ◌∙◌, arith, inl, inr}
use Rattle.std.specs.Prelude.{◌⊎◌, min}
use Rattle.std.specs.List.{range_with_len}
use Rattle.std.proofs.lemmas.List.{take_all}
use Rattle.std.proofs.lemmas.List.FromFn.{length-map-range_with_len, map-range_with_len_more, take-map-range_with_len}

module _ {X : Type 0} (f : ℕ → X) where
  pub drop-map-range : (a n k b m : ℕ) → a + k ≡ b → k + m ≡ n → drop k (map f (range_with_len a n)) ≡ map f (range_with_len b m)
  drop-map-range a n zero b m at many = let same : a ≡ b = omega arith in let all : n ≡ m = omega arith in λ i. map f (range_with_len (same i) (all i))
  drop-map-range a zero (suc k) b m at many = absurd (omega arith)
  drop-map-range a (suc n) (suc k) b m at many = drop-map-range (a + 1) n k b m (omega arith) (omega arith)

  -- some of the elements from a place on
  pub part-map-range : (n from most : ℕ) → from ≤ n → map f (range_with_len from (min (n - from) most)) ≡ take most (drop from (map f (range_with_len 0 n)))
  part-map-range n from most h = sym (ap (take most) (drop-map-range 0 n from from (n - from) (omega arith) (omega arith)) ∙ by_count (grind arith))
    where
      by_count : (most ≤ n - from) ⊎ (n - from ≤ most) → take most (map f (range_with_len from (n - from))) ≡ map f (range_with_len from (min (n - from) most))
      by_count (inl few) = let least : most ≡ min (n - from) most = omega arith in take-map-range_with_len f from (n - from) most few ∙ ap (λ c. map f (range_with_len from c)) least
      by_count (inr many) =
          let least : n - from ≡ min (n - from) most = omega arith in
          take_all most (map f (range_with_len from (n - from))) (omega (arith, length-map-range_with_len f from (n - from))) ∙ ap (λ c. map f (range_with_len from c)) least

  -- one element more
  pub more-map-range : (from k : ℕ) (xs ys : List X) (x : X) → from ≤ k → xs ≡ map f (range_with_len from (k - from)) → x ≡ f k → ys ≡ xs ++ x ∷ [] → ys ≡ map f (range_with_len from (k + 1 - from))
  more-map-range from k xs ys x h before is more =
      let one : k - from + 1 ≡ k + 1 - from = omega arith in
      more ∙ ((λ i. before i ++ is i ∷ []) ∙ (sym (map-range_with_len_more f from (k - from) k (omega arith)) ∙ ap (λ n. map f (range_with_len from n)) one))
