-- Where moves take positions.
use Rattle.std.proofs.Common.{◌≡◌, ℕ, zero, suc, ◌+◌, ◌<◌, ◌≤◌, ◌≢◌, ◌⊎◌, inl, inr, ⊎_elim, true, false, nat_eq, List, [], ◌∷◌, length, get_or, refl, sym, ◌∙◌, arith, All, AllPairs}
use Rattle.std.proofs.lemmas.List.Elements.{All-nil, All-cons, All-head, All-tail}
use Rattle.std.proofs.lemmas.Bool.{cases_eq, cases_lt}
use Rattle.std.proofs.lemmas.Bool.Decides.{nat_tests}
use Rattle.std.proofs.lemmas.List.Sorted.{searchable_from_sorted}
use Rattle.std.specs.Cmp.{nat_cmp_total}
use Rattle.std.specs.Ordering.{nat_cmp, ordering_index}
use Rattle.std.specs.declared.cmp.Ordering.TheVariants.{Less, Equal, Greater}
use Rattle.std.specs.List.Sorted.{IsNonDecreasingBy, IsPartitionPoint}
use Rattle.marked_lines.specs.Moves.{image}

-- no two with one first position
abbrev pub IsDistinctByFirst : List (ℕ × ℕ) → Type 0
IsDistinctByFirst moves = AllPairs (λ m n. m.0 ≢ n.0) moves

pub image_here : (m : ℕ × ℕ) (moves : List (ℕ × ℕ)) (p : ℕ) → m.0 ≡ p → image (m ∷ moves) p ≡ m.1
image_here m moves p same = let test : nat_eq m.0 p ≡ true = grind (arith, nat_tests) in rw test refl

pub image_there : (m : ℕ × ℕ) (moves : List (ℕ × ℕ)) (p : ℕ) → m.0 ≢ p → image (m ∷ moves) p ≡ image moves p
image_there m moves p other = let test : nat_eq m.0 p ≡ false = grind (arith, nat_tests) in rw test refl

-- a position that isn't among the moved ones stays
pub image_none : (moves : List (ℕ × ℕ)) (p : ℕ) → All (λ m. m.0 ≢ p) moves → image moves p ≡ p
image_none [] p none = refl
image_none (m ∷ moves) p none = image_there m moves p (All-head (λ m. m.0 ≢ p) m moves none) ∙ image_none moves p (All-tail (λ m. m.0 ≢ p) m moves none)

AllPairs_tail : (m : ℕ × ℕ) (moves : List (ℕ × ℕ)) → IsDistinctByFirst (m ∷ moves) → IsDistinctByFirst moves
AllPairs_tail m moves distinct = λ i j d lt within. distinct (suc i) (suc j) d (omega arith) (omega arith)

pub image_at : (moves : List (ℕ × ℕ)) → IsDistinctByFirst moves → (k : ℕ) (d : ℕ × ℕ) → k < length moves → image moves (get_or moves k d).0 ≡ (get_or moves k d).1
image_at [] distinct k d within = absurd (omega arith)
image_at (m ∷ moves) distinct zero d within = image_here m moves m.0 refl
image_at (m ∷ moves) distinct (suc k) d within =
    image_there m moves (get_or moves k d).0 (distinct 0 (suc k) d (omega arith) within)
    ∙ image_at moves (AllPairs_tail m moves distinct) k d (omega arith)

-- a position is moved by one of the moves, or by none
pub image_cases : (moves : List (ℕ × ℕ)) (p : ℕ) → ((k : ℕ) × (k < length moves) × ((d : ℕ × ℕ) → (get_or moves k d).0 ≡ p)) ⊎ All (λ m. m.0 ≢ p) moves
image_cases [] p = inr (All-nil (λ m. m.0 ≢ p))
image_cases (m ∷ moves) p = by_head (cases_eq m.0 p) (image_cases moves p)
  where
    by_head : (m.0 ≡ p) ⊎ (m.0 ≢ p) → ((k : ℕ) × (k < length moves) × ((d : ℕ × ℕ) → (get_or moves k d).0 ≡ p)) ⊎ All (λ m. m.0 ≢ p) moves →
        ((k : ℕ) × (k < length (m ∷ moves)) × ((d : ℕ × ℕ) → (get_or (m ∷ moves) k d).0 ≡ p)) ⊎ All (λ m. m.0 ≢ p) (m ∷ moves)
    by_head (inl same) rest = inl (0, omega arith, λ d. same)
    by_head (inr other) (inl found) = inl (suc found.0, omega (arith, found.1), found.2)
    by_head (inr other) (inr none) = inr (All-cons (λ m. m.0 ≢ p) m moves other none)

pub IsDistinctByFirst-from_ascending : (moves : List (ℕ × ℕ)) → AllPairs (λ m n. m.0 < n.0) moves → IsDistinctByFirst moves
IsDistinctByFirst-from_ascending moves up = λ i j d lt within same. let h = up i j d lt within in omega (arith, h, same)

-- what a binary search finds
pub image_found : (moves : List (ℕ × ℕ)) (p i : ℕ) → AllPairs (λ m n. m.0 < n.0) moves → i < length moves → ((d : ℕ × ℕ) → nat_cmp (get_or moves i d).0 p ≡ Equal) → (m : ℕ × ℕ) → m ≡ get_or moves i m → m.1 ≡ image moves p
image_found moves p i up within equal m is =
    let here : (get_or moves i m).0 ≡ p = let h = equal m in grind (arith, nat_tests) in
    let at = image_at moves (IsDistinctByFirst-from_ascending moves up) i m within in
    cc

image_searchable : (moves : List (ℕ × ℕ)) (p : ℕ) → AllPairs (λ m n. m.0 < n.0) moves → IsNonDecreasingBy (λ m. ordering_index (nat_cmp m.0 p)) moves
image_searchable moves p up = searchable_from_sorted nat_cmp_total (λ m. m.0) moves p (λ k d low within. let h = up k (k + 1) d (omega arith) within in grind (arith, nat_tests))

pub image_missing : (moves : List (ℕ × ℕ)) (p i : ℕ) → AllPairs (λ m n. m.0 < n.0) moves →
    (IsNonDecreasingBy (λ m. ordering_index (nat_cmp m.0 p)) moves → IsPartitionPoint (λ m. nat_cmp m.0 p ≡ Less) (λ m. nat_cmp m.0 p ≡ Greater) moves i) → p ≡ image moves p
image_missing moves p i up point =
    let parts = point (image_searchable moves p up) in
    let apart : All (λ m. m.0 ≢ p) moves = λ k d within same. ⊎_elim
    (λ (below : k < i). let h = parts.0 k d (omega arith) below in grind (arith, nat_tests))
    (λ (above : i ≤ k). let h = parts.1 k d above within in grind (arith, nat_tests))
    (cases_lt k i) in
    sym (image_none moves p apart)
