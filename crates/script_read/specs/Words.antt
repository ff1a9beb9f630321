-- the words of a line
use Rattle.std.specs.Prelude.{ℕ, nat_le, ◌==◌, ◌||◌, ◌&&◌, not, Bool, false, List, [], ◌∷◌, length, codes, if◌then◌else◌, Option, Some, None}
use Rattle.std.specs.Char.{is_ascii_lowercase, is_ascii_digit}
use Rattle.std.specs.Int.{is_in_range}
use Rattle.std.specs.List.{list_all, list_any, slice_split}
use Rattle.std.specs.Str.{bytes_eq}

-- the bytes that a line may have: space to `~`
abbrev pub is_line_byte : ℕ → Bool
is_line_byte b = is_in_range 32 126 b

abbrev pub is_space : ℕ → Bool
is_space b = b == 32

-- the pieces between spaces; two spaces side by side part an empty word, which is no word of any line
abbrev pub words : List ℕ → List (List ℕ)
words line = slice_split is_space line

-- words that no site may have as its name
abbrev pub is_reserved : List ℕ → Bool
is_reserved word = list_any (bytes_eq word) (words (codes "sheet site push pull recalc show values history wire end all server"))

abbrev pub is_site_name_byte : ℕ → Bool
is_site_name_byte b = is_ascii_lowercase b || is_ascii_digit b

-- a lower-case letter and up to 15 lower-case letters or digits, and none of the reserved words
abbrev pub is_site_name : List ℕ → Bool
is_site_name [] = false
is_site_name (b ∷ bs) = is_ascii_lowercase b && (list_all is_site_name_byte bs && (nat_le (length bs) 15 && not (is_reserved (b ∷ bs))))

abbrev pub named : List ℕ → Option (List ℕ)
named word = if is_site_name word then Some word else None
