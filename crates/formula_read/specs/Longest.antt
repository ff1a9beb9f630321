-- The longest token at the front of a text, and how far some token goes.
use Rattle.std.specs.Prelude.{ℕ, suc, ◌+◌, List, [], ◌∷◌, Option, Some, None}
use Rattle.formula_read.specs.declared.kinds.TokenKind.{TokenKind}
use Rattle.formula_read.specs.declared.partial.Partial.{Partial}
use Rattle.formula_read.specs.Partial.{partial_step, kind_at}

-- what a token has become with more bytes, if some token begins so
abbrev pub partial_after : Option Partial → List ℕ → Option Partial
partial_after None bs = None
partial_after (Some s) [] = Some s
partial_after (Some s) (b ∷ bs) = partial_after (partial_step s b) bs

abbrev pub first_byte : List ℕ → Option ℕ
first_byte [] = None
first_byte (b ∷ bs) = Some b

-- a token that ends here, where none ends later
abbrev pub here_or_later : Option TokenKind → Option (ℕ × TokenKind) → Option (ℕ × TokenKind)
here_or_later here (Some (n, k)) = Some (suc n, k)
here_or_later None None = None
here_or_later (Some k) None = Some (0, k)

-- how many more bytes the longest token has, and what it is
abbrev pub longest : Option Partial → List ℕ → Option (ℕ × TokenKind)
longest None bs = None
longest (Some s) [] = here_or_later (kind_at s None) None
longest (Some s) (b ∷ bs) = here_or_later (kind_at s (Some b)) (longest (partial_step s b) bs)

-- how many fronts of the bytes some token begins with: 0 where there is no token at hand, else the empty front is one
abbrev pub fronts : Option Partial → List ℕ → ℕ
fronts None bs = 0
fronts (Some s) [] = 1
fronts (Some s) (b ∷ bs) = suc (fronts (partial_step s b) bs)

-- the token that ends at a place if there is one, and else the one found before
abbrev pub later : Option (ℕ × TokenKind) → ℕ → Option TokenKind → Option (ℕ × TokenKind)
later found at (Some k) = Some (at, k)
later found at None = found

-- the longest token behind some bytes if there is one, and else the one found before
abbrev pub behind : ℕ → Option (ℕ × TokenKind) → Option (ℕ × TokenKind) → Option (ℕ × TokenKind)
behind at (Some (n, k)) found = Some (at + n, k)
behind at None found = found
