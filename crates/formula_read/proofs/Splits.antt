-- two ways to cut a list
use Rattle.std.proofs.Common.{◌≡◌, ◌≢◌, ℕ, ◌<◌, ◌≤◌, List, [], ◌∷◌, ◌++◌, length, refl, ap, sym, ◌∙◌, arith}
use Rattle.std.proofs.lemmas.List.{length-append, append-nil}

same_head : {a b : ℕ} {xs ys : List ℕ} → a ∷ xs ≡ b ∷ ys → a ≡ b
same_head e = cc

same_tail : {a b : ℕ} {xs ys : List ℕ} → a ∷ xs ≡ b ∷ ys → xs ≡ ys
same_tail e = cc

-- the shorter front begins the longer one
pub shorter_front : (p r x v : List ℕ) → p ++ r ≡ x ++ v → length p ≤ length x → (z : List ℕ) × (x ≡ p ++ z) × (r ≡ z ++ v)
shorter_front [] r x v e h = (x, refl, e)
shorter_front (a ∷ p) r [] v e h = absurd (omega arith)
shorter_front (a ∷ p) r (b ∷ x) v e h =
    let (z, front, rest) = shorter_front p r x v (same_tail e) (omega arith) in
    (z, (λ i. same_head (sym e) i ∷ front i), rest)

pub same_front : (p r x v : List ℕ) → p ++ r ≡ x ++ v → length p ≡ length x → (p ≡ x) × (r ≡ v)
same_front p r x v e h =
    let (z, front, rest) = shorter_front p r x v e (omega arith) in
    let none : length z ≡ 0 = (let size = ap length front in let sum = length-append p z in omega arith) in
    by_rest z front rest none
  where
    by_rest : (z : List ℕ) → x ≡ p ++ z → r ≡ z ++ v → length z ≡ 0 → (p ≡ x) × (r ≡ v)
    by_rest [] front rest none = (sym (front ∙ append-nil p), rest)
    by_rest (a ∷ z) front rest none = absurd (omega arith)

pub some_left : (p z x : List ℕ) → x ≡ p ++ z → length p < length x → z ≢ []
some_left p z x e h none = absurd (let size = ap length e in let sum = length-append p z in let nil = ap length none in omega arith)
