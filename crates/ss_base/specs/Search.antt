-- The search for the end of a line in bytes that come piece by piece.
use Rattle.std.specs.Prelude.{ℕ, ◌≡◌, false, nat_eq, List, [], ◌∷◌, ◌++◌, length, Option, Some, None, Result, Ok, Err}
use Rattle.ss_base.specs.declared.lines.LineErr.{LineErr}
use Rattle.ss_base.specs.declared.lines.LineErr.TheVariants as fault
use Rattle.ss_base.specs.declared.search.Found.{Found}
use Rattle.ss_base.specs.declared.search.Found.TheVariants as found

-- no byte is lost and none is made up: what is at hand and what the source has left, before and after
abbrev pub Refills : Option (List ℕ) → Option (List ℕ) → List ℕ → List ℕ → Type 0
Refills None None old new = Unit {0}
Refills (Some before) (Some after) old new = old ++ before ≡ new ++ after
Refills None (Some after) old new = ⊥
Refills (Some before) None old new = ⊥

-- nothing is left, where it is told
abbrev pub IsEndOf : Option (List ℕ) → Type 0
IsEndOf None = Unit {0}
IsEndOf (Some left) = left ≡ []

-- the byte that comes next of those at hand
abbrev pub ComesNext : List ℕ → Option ℕ → Type 0
ComesNext ahead None = ahead ≡ []
ComesNext ahead (Some b) = (rest : List ℕ) × (ahead ≡ b ∷ rest)

-- no byte is a line feed
abbrev pub NoFeed : List ℕ → Type 0
NoFeed [] = Unit {0}
NoFeed (b ∷ bs) = (nat_eq b 10 ≡ false) × NoFeed bs

-- where a search stopped, by the bytes of the line, what is at hand behind them and what the source has left
abbrev pub StopsAt : List ℕ → List ℕ → Option (List ℕ) → Result Found LineErr → Type 0
StopsAt line ahead left (Ok found.Feed) = (rest : List ℕ) × (ahead ≡ 10 ∷ rest)
StopsAt line ahead left (Ok found.End) = (ahead ≡ []) × IsEndOf left
StopsAt line ahead left (Err fault.TooLong) =
    (length line ≡ 4096) × ((b : ℕ) × (rest : List ℕ) × (ahead ≡ b ∷ rest) × (nat_eq b 10 ≡ false))
StopsAt line ahead left (Err fault.ReadFault) = ahead ≡ []
