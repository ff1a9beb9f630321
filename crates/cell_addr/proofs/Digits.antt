-- digits one by one
use Rattle.std.proofs.Common.{◌≡◌, ℕ, Bool, false, ◌&&◌, nat_le, refl, zero-add, ◌+◌, ◌-◌, ◌*◌, ◌^◌, ◌<◌, ◌≤◌, true, List, [], ◌∷◌, length, take, get_or, rules, arith}
use Rattle.std.specs.Char.{is_ascii_digit, digit_value}
use Rattle.std.specs.Int.{IsInRange, is_in_range}
use Rattle.std.specs.List.{list_all}
use Rattle.std.specs.Str.Parse.{digits_value, digits_value_after}
use Rattle.std.proofs.lemmas.Bool.Decides.{nat_tests}
use Rattle.std.proofs.lemmas.Int.Digits.{digits_value_more}
use Rattle.std.proofs.lemmas.Str.Parse.{IsNumeralModel, digits_value_short, numerals_by_value, digits_value-take-le, digit_at}
use Rattle.cell_addr.specs.Rows.{is_count}

pub digits_model : IsNumeralModel (λ ds. list_all is_ascii_digit ds ≡ true) (digits_value 10)
digits_model = numerals_by_value _ (search rules)

digit_value-digit : (b : ℕ) → IsInRange 48 57 b → digit_value b ≡ b - 48
digit_value-digit b h = grind (arith, nat_tests)

-- the digit at an index, and the number of the digits up to it
module _ (ds : List ℕ) (i : ℕ) (digits : list_all is_ascii_digit ds ≡ true) (within : i < length ds) where
  pub digit_is : IsInRange 48 57 (get_or ds i 0)
  digit_is = digit_at ds i (digits_model.to ds digits) within

  pub digit_more : digits_value 10 (take (i + 1) ds) ≡ digits_value 10 (take i ds) * 10 + (get_or ds i 0 - 48)
  digit_more = rw (← digit_value-digit (get_or ds i 0) digit_is) (digits_value_more 10 ds i within)

  pub front_below : digits_value 10 (take i ds) * 10 + (get_or ds i 0 - 48) ≤ digits_value 10 ds
  front_below = rw (← digit_more) (digits_value-take-le 10 ds (i + 1) (omega arith))

  pub digit_below : length ds ≤ 9 → digits_value 10 (take i ds) * 10 + (get_or ds i 0 - 48) < 10 ^ 9
  digit_below few = omega (arith, front_below, digits_value_short digits_model ds 9 digits few)

-- more digits make no number less
after_ge : (n : ℕ) (ds : List ℕ) → n ≤ digits_value_after 10 n ds
after_ge n [] = omega arith
after_ge n (d ∷ ds) = let more = after_ge (n * 10 + digit_value d) ds in omega arith

-- both parts of a test
pub both : (a b : Bool) → (a && b) ≡ true → (a ≡ true) × (b ≡ true)
both true true h = (refl, refl)
both true false h = absurd (cc)
both false b h = absurd (cc)

-- the digits of a count, and its size
count_parts : (text : List ℕ) → is_count text ≡ true → (list_all is_ascii_digit text ≡ true) × (length text ≤ 7) × (1 ≤ digits_value 10 text)
count_parts [] h = absurd (cc)
count_parts (d ∷ ds) h =
    let parts = both (is_in_range 49 57 d) (list_all is_ascii_digit (d ∷ ds) && nat_le (length (d ∷ ds)) 7) h in
    let rest = both (list_all is_ascii_digit (d ∷ ds)) (nat_le (length (d ∷ ds)) 7) parts.1 in
    let range = both (nat_le 49 d) (nat_le d 57) parts.0 in
    let low : 49 ≤ d = grind (arith, nat_tests, range.0) in
    let high : d ≤ 57 = grind (arith, nat_tests, range.1) in
    let value : digit_value d ≡ d - 48 = digit_value-digit d (omega arith, high) in
    (rest.0, grind (arith, nat_tests, rest.1), rw zero-add (let more = after_ge (digit_value d) ds in omega (arith, more, value)))

pub count_digits : (text : List ℕ) → is_count text ≡ true → list_all is_ascii_digit text ≡ true
count_digits text h = (count_parts text h).0

pub count_length : (text : List ℕ) → is_count text ≡ true → length text ≤ 7
count_length text h = (count_parts text h).1

pub count_size : (text : List ℕ) → is_count text ≡ true → (1 ≤ digits_value 10 text) × (digits_value 10 text ≤ 9999999)
count_size text h =
    let whole = digits_value_short digits_model text 7 (count_digits text h) (count_length text h) in
    ((count_parts text h).2, omega (arith, whole))
