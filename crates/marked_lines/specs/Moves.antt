-- A permutation of positions that moves finitely many of them: the moved positions, ascending, each with its image.
-- Every other position is its own image.
use Rattle.std.specs.Prelude.{ℕ, suc, ◌+◌, ◌<◌, ◌≡◌, ◌≢◌, nat_eq, nat_lt, not, if◌then◌else◌, List, [], ◌∷◌, map, All, AllPairs, slice_index_or}
use Rattle.std.specs.List.{filter}

-- where what stands at position p goes
abbrev pub image : List (ℕ × ℕ) → ℕ → ℕ
image [] p = p
image (m ∷ moves) p = if nat_eq m.0 p then m.1 else image moves p

-- a move the other way
abbrev pub turned : ℕ × ℕ → ℕ × ℕ
turned m = (m.1, m.0)

-- where what comes to position q stood
abbrev pub source : List (ℕ × ℕ) → ℕ → ℕ
source moves q = image (map turned moves) q

-- what the moves of every permutation meet: each stands once, none stays where it is, and image and source undo each other
pub record IsPerm (moves : List (ℕ × ℕ)) : Type 0 where
  pub ascending : AllPairs (λ m n. m.0 < n.0) moves
  pub moving : All (λ m. m.0 ≢ m.1) moves
  pub back : (p : ℕ) → source moves (image moves p) ≡ p
  pub forth : (q : ℕ) → image moves (source moves q) ≡ q

-- the moves of the map f, where it moves none but these positions
abbrev pub moves_of : (ℕ → ℕ) → List ℕ → List (ℕ × ℕ)
moves_of f positions = filter (λ m. not (nat_eq m.0 m.1)) (map (λ p. (p, f p)) positions)

-- a map moves none but these positions
abbrev pub IsUnmovedOutside : (ℕ → ℕ) → List ℕ → Type 0
IsUnmovedOutside f positions = (p : ℕ) → All (λ q. q ≢ p) positions → f p ≡ p

-- where position p is after an insertion at q
abbrev pub after_insertion : ℕ → ℕ → ℕ
after_insertion q p = if nat_lt p q then p else p + 1

-- the moves after an insertion at q, with the new line in its place
abbrev pub shifted : ℕ → List (ℕ × ℕ) → List (ℕ × ℕ)
shifted q moves = map (λ m. (after_insertion q m.0, after_insertion q m.1)) moves

-- no position from n on is moved
abbrev pub MovesBelow : ℕ → List (ℕ × ℕ) → Type 0
MovesBelow n moves = All (λ m. m.0 < n) moves

-- each element goes from its position to the image of that position
abbrev pub permuted_from : {A : Type 0} → List (ℕ × ℕ) → List A → ℕ → List A → List A
permuted_from moves all q [] = []
permuted_from moves all q (x ∷ xs) = slice_index_or all (source moves q) x ∷ permuted_from moves all (suc q) xs

abbrev pub permute : {A : Type 0} → List (ℕ × ℕ) → List A → List A
permute moves xs = permuted_from moves xs 0 xs
