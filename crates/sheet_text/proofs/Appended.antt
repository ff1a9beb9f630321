-- Texts that are made piece by piece.
use Rattle.std.proofs.Common.{◌≡◌, ℕ, suc, ◌+◌, ◌<◌, List, [], ◌∷◌, ◌++◌, length, take, get_or, ap, sym, ◌∙◌, arith, append_assoc}
use Rattle.std.specs.Prelude.{decimal}
use Rattle.std.specs.List.{flat_map}
use Rattle.std.proofs.lemmas.List.{append-nil, take_more, length-take}
use Rattle.std.proofs.lemmas.Grind.{flat_map-append}
use Rattle.sheet_text.specs.Operations.{numbered, positions_text}

-- one more piece
pub pieces_more : {X : Type 0} (f : X → List ℕ) (xs : List X) (i : ℕ) (d x : X) → i < length xs → x ≡ get_or xs i d → flat_map f (take (i + 1) xs) ≡ flat_map f (take i xs) ++ f x
pieces_more f xs i d x within is =
    ap (flat_map f) (take_more xs i d within)
    ∙ (flat_map-append f (take i xs) (get_or xs i d ∷ [])
    ∙ ap (λ (t : List ℕ). flat_map f (take i xs) ++ t) (append-nil (f (get_or xs i d)) ∙ ap f (sym is)))

numbered-append : {X : Type 0} (f : X → List ℕ) (first : ℕ) (xs ys : List X) → numbered f first (xs ++ ys) ≡ numbered f first xs ++ numbered f (first + length xs) ys
numbered-append f first [] ys = ap (λ (n : ℕ). numbered f n ys) (let z : first ≡ first + 0 = omega arith in z)
numbered-append f first (x ∷ xs) ys =
    ap (λ (t : List ℕ). decimal first ++ (32 ∷ f x ++ t)) (numbered-append f (suc first) xs ys ∙ ap (λ (n : ℕ). numbered f (suc first) xs ++ numbered f n ys) (let z : suc first + length xs ≡ first + suc (length xs) = omega arith in z))
    ∙ regrouped (decimal first) (f x) (numbered f (suc first) xs) (numbered f (first + suc (length xs)) ys)
  where
    regrouped : (a b c d : List ℕ) → a ++ (32 ∷ b ++ (c ++ d)) ≡ (a ++ (32 ∷ b ++ c)) ++ d
    regrouped a b c d = simp append_assoc

-- one more text behind its number
pub numbered_more : {X : Type 0} (f : X → List ℕ) (xs : List X) (i : ℕ) (x : X) → i < length xs → x ≡ get_or xs i x →
    numbered f 1 (take (i + 1) xs) ≡ numbered f 1 (take i xs) ++ ((decimal (i + 1) ++ 32 ∷ []) ++ f x)
numbered_more {X = X} f xs i x within is =
    ap (numbered f 1) (take_more xs i x within)
    ∙ (numbered-append f 1 (take i xs) (get_or xs i x ∷ [])
    ∙ (ap (λ (n : ℕ). numbered f 1 (take i xs) ++ (decimal n ++ (32 ∷ f (get_or xs i x) ++ []))) count
    ∙ ap (λ (t : List ℕ). numbered f 1 (take i xs) ++ t) (ap (λ (y : X). decimal (i + 1) ++ (32 ∷ f y ++ [])) (sym is) ∙ grouped (decimal (i + 1)) (f x))))
  where
    count : 1 + length (take i xs) ≡ i + 1
    count = simp length-take (omega arith)

    grouped : (a b : List ℕ) → a ++ (32 ∷ b ++ []) ≡ (a ++ 32 ∷ []) ++ b
    grouped a b = simp (append_assoc, append-nil)

-- positions with a comma between each two: each but the first has one before it
pub parted : (p : ℕ) (ps : List ℕ) → positions_text (p ∷ ps) ≡ decimal (p + 1) ++ flat_map (λ q. 44 ∷ decimal (q + 1)) ps
parted p [] = sym (append-nil (decimal (p + 1)))
parted p (q ∷ qs) = ap (λ (t : List ℕ). decimal (p + 1) ++ 44 ∷ t) (parted q qs)

pub one_appended : (first front a whole now last : List ℕ) → now ≡ first ++ front → last ≡ now ++ a → whole ≡ front ++ a → last ≡ first ++ whole
one_appended first front a whole now last p q r = q ∙ (ap (λ (l : List ℕ). l ++ a) p ∙ (append_assoc first front a ∙ ap (λ (l : List ℕ). first ++ l) (sym r)))
