-- The numbers that entries say.
use Rattle.std.specs.Prelude.{ℕ, zero, suc, ℤ, pos, neg_ℤ, ◌^◌, nat_eq, nat_lt, nat_le, ◌&&◌, ◌||◌, Bool, true, false, if◌then◌else◌, List, [], ◌∷◌, length, take, is_some, Option, Some, None}
use Rattle.std.specs.Str.Parse.{digits_value}
use Rattle.sheet_ops.specs.Numerals.{are_digits}

-- a number with or without a minus, in the range of 64 bits with a sign
abbrev pub signed_number : Bool → ℕ → Option ℤ
signed_number minus n =
    if minus
    then (if nat_le n (2 ^ 63) then Some (neg_ℤ (pos n)) else None)
    else (if nat_lt n (2 ^ 63) then Some (pos n) else None)

-- one or more decimal digits behind that sign
abbrev pub number_after : Bool → List ℕ → Option ℤ
number_after minus digits = if are_digits digits then signed_number minus (digits_value 10 digits) else None

-- the number that an entry is: an optional `-` and digits, in range
abbrev pub entered_number : List ℕ → Option ℤ
entered_number [] = None
entered_number (b ∷ bs) = if nat_eq b 45 then number_after true bs else number_after false (b ∷ bs)

-- the entries that say a number in range begin so: with nothing, with a minus, or with another number in range
abbrev pub begins_number : List ℕ → Bool
begins_number [] = true
begins_number (b ∷ bs) = (nat_eq b 45 && nat_eq (length bs) 0) || is_some (entered_number (b ∷ bs))

-- the length of the longest front of a text that passes, among those of so many bytes and fewer
abbrev pub longest_front : (List ℕ → Bool) → List ℕ → ℕ → ℕ
longest_front test bs zero = 0
longest_front test bs (suc n) = if test (take (suc n) bs) then suc n else longest_front test bs n

-- the length of the longest front of an entry with which a number in range begins
abbrev pub number_front : List ℕ → ℕ
number_front entry = longest_front begins_number entry (length entry)
