-- Lists made over a range of numbers.
use Rattle.std.proofs.Common.{◌≡◌, ℕ, zero, suc, ◌+◌, ◌<◌, ◌≤◌, List, [], ◌∷◌, ◌++◌, refl, ap, sym, ◌∙◌, arith, append_assoc}
use Rattle.std.specs.List.{range_with_len, flat_map}
use Rattle.std.proofs.lemmas.List.{append-nil}
use Rattle.std.proofs.lemmas.List.Concat.{flat_map-append}

pub range_more : (a n b : ℕ) → a + n ≡ b → range_with_len a (n + 1) ≡ range_with_len a n ++ b ∷ []
range_more a zero b e = let same : a ≡ b = omega arith in ap (λ (x : ℕ). x ∷ []) same
range_more a (suc n) b e = let more : suc n + 1 ≡ suc (n + 1) = omega arith in rw (more) (ap (λ (l : List ℕ). a ∷ l) (range_more (a + 1) n b (omega arith)))

module _ {A : Type 0} where
  -- one number more
  pub flat_map_range_more : (f : ℕ → List A) (before : List A) (n : ℕ) → (before ++ flat_map f (range_with_len 0 n)) ++ f n ≡ before ++ flat_map f (range_with_len 0 (n + 1))
  flat_map_range_more f before n =
      append_assoc before (flat_map f (range_with_len 0 n)) (f n)
      ∙ ap (λ l. before ++ l)
      (ap (λ l. flat_map f (range_with_len 0 n) ++ l) (sym (append-nil (f n))) ∙ sym (flat_map-append f (range_with_len 0 n) (n ∷ [])) ∙ ap (flat_map f) (sym (range_more 0 n n (omega arith))))

  -- functions that agree give one list
  pub flat_map_same : (f g : ℕ → List A) → ((k : ℕ) → f k ≡ g k) → (ks : List ℕ) → flat_map f ks ≡ flat_map g ks
  flat_map_same f g same [] = refl
  flat_map_same f g same (k ∷ ks) = λ i. same k i ++ flat_map_same f g same ks i

  -- numbers that give nothing may be left out at the end
  pub flat_map_short : (f : ℕ → List A) (a m n : ℕ) → m ≤ n → ((k : ℕ) → a + m ≤ k → k < a + n → f k ≡ []) → flat_map f (range_with_len a m) ≡ flat_map f (range_with_len a n)
  flat_map_short f a zero zero le none = refl
  flat_map_short f a zero (suc n) le none = flat_map_short f (a + 1) zero n (omega arith) (λ k h l. none k (omega (arith, h)) (omega (arith, l))) ∙ (λ i. sym (none a (omega arith) (omega arith)) i ++ flat_map f (range_with_len (a + 1) n))
  flat_map_short f a (suc m) zero le none = absurd (omega arith)
  flat_map_short f a (suc m) (suc n) le none = ap (λ l. f a ++ l) (flat_map_short f (a + 1) m n (omega arith) (λ k h l. none k (omega (arith, h)) (omega (arith, l))))
