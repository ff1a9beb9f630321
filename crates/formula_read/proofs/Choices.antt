-- a choice by a test, and bytes of which a test holds
use Rattle.std.proofs.Common.{◌≡◌, ℕ, ◌<◌, ◌-◌, Bool, true, false, cond, nat_eq, List, ◌∷◌, Option, Some, None, refl, arith}
use Rattle.std.specs.Char.{is_ascii_alphabetic, is_ascii_digit, digit_value}
use Rattle.std.specs.Int.{is_in_range}
use Rattle.std.specs.List.{list_all}
use Rattle.std.proofs.lemmas.Bool.{and_parts}
use Rattle.std.proofs.lemmas.Bool.Decides.{nat_tests}

pub on_test : {G A : Type 0} (t : Bool) (x y : Option A) (s : A) → cond t x y ≡ Some s → (t ≡ true → x ≡ Some s → G) → (t ≡ false → y ≡ Some s → G) → G
on_test true x y s m f g = f refl m
on_test false x y s m f g = g refl m

pub nothing : {G A : Type 0} {s : A} → None ≡ Some s → G
nothing m = absurd (cc)

pub same : {A : Type 0} {x y : A} → Some x ≡ Some y → x ≡ y
same p = cc

pub same_number : (m n : ℕ) → nat_eq m n ≡ true → m ≡ n
same_number m n h = grind (arith, nat_tests)

pub letter_is_no_digit : (b : ℕ) → is_ascii_alphabetic b ≡ true → is_ascii_digit b ≡ false
letter_is_no_digit b h = grind (arith, nat_tests)

pub letter_is_no_dollar : (b : ℕ) → is_ascii_alphabetic b ≡ true → nat_eq b 36 ≡ false
letter_is_no_dollar b h = grind (arith, nat_tests)

pub first_is_no_letter : (b : ℕ) → is_in_range 49 57 b ≡ true → is_ascii_alphabetic b ≡ false
first_is_no_letter b h = grind (arith, nat_tests)

pub first_is_no_dollar : (b : ℕ) → is_in_range 49 57 b ≡ true → nat_eq b 36 ≡ false
first_is_no_dollar b h = grind (arith, nat_tests)

pub first_is_digit : (b : ℕ) → is_in_range 49 57 b ≡ true → is_ascii_digit b ≡ true
first_is_digit b h = grind (arith, nat_tests)

pub digit_is_no_colon : (b : ℕ) → is_ascii_digit b ≡ true → nat_eq b 58 ≡ false
digit_is_no_colon b h = grind (arith, nat_tests)

-- the value of a digit
pub value_of_digit : (b : ℕ) → is_ascii_digit b ≡ true → digit_value b ≡ b - 48
value_of_digit b h = grind (arith, nat_tests)

pub value_is_small : (b : ℕ) → is_ascii_digit b ≡ true → digit_value b < 10
value_is_small b h = grind (arith, nat_tests)

pub is_digit_by_value : (b : ℕ) → digit_value b < 10 → is_ascii_digit b ≡ true
is_digit_by_value b h = grind (arith, nat_tests)

-- an element that passes, and the others
pub all_parts : (p : ℕ → Bool) (x : ℕ) (xs : List ℕ) → list_all p (x ∷ xs) ≡ true → (p x ≡ true) × (list_all p xs ≡ true)
all_parts p x xs h = and_parts (p x) (list_all p xs) h
