-- What the words behind a program's name ask for.
use Rattle.std.specs.Prelude.{ℕ, ◌^◌, ◌==◌, ◌&&◌, not, nat_lt, nat_le, Bool, List, [], ◌∷◌, length, codes, if◌then◌else◌, Option, Some, None, option_map}
use Rattle.std.specs.Char.{is_ascii_digit}
use Rattle.std.specs.List.{list_all}
use Rattle.std.specs.Str.{bytes_eq}
use Rattle.std.specs.Str.Parse.{digits_value}
use Rattle.words.specs.declared.Call.{Call}
use Rattle.words.specs.declared.Call.TheVariants as call

-- 1 to 20 digits, the first of which may be zeros
abbrev pub is_short_numeral : List ℕ → Bool
is_short_numeral word = list_all is_ascii_digit word && (not (length word == 0) && nat_le (length word) 20)

-- the number of a numeral, where it fits 64 bits
abbrev pub number_of_word : List ℕ → Option ℕ
number_of_word word = if is_short_numeral word && nat_lt (digits_value 10 word) (2 ^ 64) then Some (digits_value 10 word) else None

-- no word at all; or `load` and a number
abbrev pub call_in : List (List ℕ) → Option Call
call_in [] = Some call.Script
call_in (name ∷ []) = None
call_in (name ∷ number ∷ []) = if bytes_eq name (codes "load") then option_map call.Load (number_of_word number) else None
call_in (name ∷ number ∷ more ∷ rest) = None
