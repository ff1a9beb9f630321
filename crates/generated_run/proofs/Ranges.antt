-- One number more in a range.
use Rattle.std.proofs.Common.{◌≡◌, ℕ, zero, suc, ◌+◌, List, [], ◌∷◌, ◌++◌, refl, ap, ◌∙◌, arith}
use Rattle.std.specs.List.{range_with_len, flat_map}
use Rattle.std.proofs.Math.Nat.{zero-add}
use Rattle.std.proofs.lemmas.Grind.{flat_map-append}

pub range_more : (a n : ℕ) → range_with_len a (suc n) ≡ range_with_len a n ++ (a + n) ∷ []
range_more a zero = let z : a ≡ a + 0 = omega arith in ap (λ (k : ℕ). k ∷ []) z
range_more a (suc n) =
    let z : a + 1 + n ≡ a + suc n = omega arith in
    ap (λ (ks : List ℕ). a ∷ ks) (range_more (a + 1) n ∙ ap (λ (k : ℕ). range_with_len (a + 1) n ++ k ∷ []) z)

pub append_none : {A : Type 0} (xs : List A) → xs ++ [] ≡ xs
append_none [] = refl
append_none (x ∷ xs) = ap (λ ys. x ∷ ys) (append_none xs)

pub flat_map_more : {A : Type 0} (f : ℕ → List A) (n : ℕ) → flat_map f (range_with_len 0 (suc n)) ≡ flat_map f (range_with_len 0 n) ++ f n
flat_map_more f n =
    ap (λ (ks : List ℕ). flat_map f ks) (range_more 0 n ∙ ap (λ (k : ℕ). range_with_len 0 n ++ k ∷ []) (zero-add n))
    ∙ (flat_map-append f (range_with_len 0 n) (n ∷ []) ∙ ap (λ ys. flat_map f (range_with_len 0 n) ++ ys) (append_none (f n)))
