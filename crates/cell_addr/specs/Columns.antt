-- columns by their letters: A to Z are 0 to 25, AA to ZZ 26 to 701, AAA to ZZZ 702 to 18,277
use Rattle.std.specs.Prelude.{ℕ, ◌+◌, ◌-◌, ◌*◌, ◌/◌, ◌%◌, nat_lt, ◌&&◌, if◌then◌else◌, List, [], ◌∷◌, Option, Some, None}
use Rattle.std.specs.Char.{is_ascii_alphabetic, to_ascii_uppercase}

-- the place of a letter in the alphabet, from 0, in either case
abbrev pub alphabet_place : ℕ → ℕ
alphabet_place b = to_ascii_uppercase b - 65

-- the column that 1 to 3 letters name
abbrev pub col_named : List ℕ → Option ℕ
col_named (a ∷ []) =
    if is_ascii_alphabetic a then Some (alphabet_place a) else None
col_named (a ∷ b ∷ []) =
    if is_ascii_alphabetic a && is_ascii_alphabetic b
    then Some (26 + alphabet_place a * 26 + alphabet_place b)
    else None
col_named (a ∷ b ∷ c ∷ []) =
    if is_ascii_alphabetic a && (is_ascii_alphabetic b && is_ascii_alphabetic c)
    then Some (702 + alphabet_place a * 676 + alphabet_place b * 26 + alphabet_place c)
    else None
col_named _ = None

-- the upper-case letter at a place of the alphabet
abbrev pub letter_at : ℕ → ℕ
letter_at place = 65 + place

-- a column's letters
abbrev pub letters : ℕ → List ℕ
letters col =
    if nat_lt col 26 then letter_at col ∷ []
    else if nat_lt col 702 then (let n = col - 26 in letter_at (n / 26) ∷ letter_at (n % 26) ∷ [])
    else (let n = col - 702 in letter_at (n / 676) ∷ letter_at (n / 26 % 26) ∷ letter_at (n % 26) ∷ [])
