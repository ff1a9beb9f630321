-- Lists in which some elements are replaced.
use Rattle.std.specs.Prelude.{ℕ, ◌≡◌, List, [], ◌∷◌, length, Option, unwrap_or}

-- at each place of the list of changes its change, where there is one
abbrev pub replaced : {A : Type 0} → List (Option A) → List A → List A
replaced [] xs = xs
replaced (c ∷ cs) [] = []
replaced (c ∷ cs) (x ∷ xs) = unwrap_or c x ∷ replaced cs xs

-- changes that make the same of each list of so many elements
abbrev pub MakeSame : {A : Type 0} → ℕ → List (Option A) → List (Option A) → Type 0
MakeSame {A} count cs ds = (xs : List A) → length xs ≡ count → replaced cs xs ≡ replaced ds xs
