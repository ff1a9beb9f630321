-- Numerals as `parse` reads them, and words that are in no call.
use Rattle.std.proofs.Common.{◌≡◌, ℕ, zero, suc, subst, ⊎_elim, option_map, ◌<◌, ◌^◌, ◌&&◌, eqb, not, Bool, true, false, cond, nat_lt, nat_le, List, [], ◌∷◌, length, get_or, refl, ap, sym, ◌∙◌, rules, arith, codes, Option, Some, None, Result, Ok, Err}
use Rattle.std.specs.Prelude.{IfNone, MatchResult}
use Rattle.std.specs.Char.{is_ascii_digit}
use Rattle.std.specs.List.{list_all}
use Rattle.std.specs.Result.{result_ok, OkIff}
use Rattle.std.specs.Str.{IsUtf8, bytes_eq}
use Rattle.std.specs.Str.Parse.{digits_value, ParsesUnsigned}
use Rattle.std.proofs.lemmas.Bool.Decides.{nat_tests}
use Rattle.std.proofs.lemmas.Bool.{cases_lt}
use Rattle.std.proofs.lemmas.List.{get_or_past}
use Rattle.std.proofs.lemmas.Slice.Eq.{bytes_eq-Decides}
use Rattle.std.proofs.lemmas.Str.{IsUtf8-from_ascii}
use Rattle.std.proofs.lemmas.Str.Parse.{IsNumeralModel, numerals_by_value, parse_digits, digit_at}
use Rattle.words.specs.Calls.{is_short_numeral, number_of_word, call_in}
use Rattle.words.specs.declared.Call.TheVariants as call
use Rattle.words.specs.Positionals.{is_no_option, IsForeign}

digits_model : IsNumeralModel (λ ds. list_all is_ascii_digit ds ≡ true) (digits_value 10)
digits_model = numerals_by_value _ (search rules)

pub both : (a b : Bool) → (a && b) ≡ true → (a ≡ true) × (b ≡ true)
both true true h = (refl, refl)
both true false h = absurd (cc)
both false b h = absurd (cc)

-- ---- a numeral

module _ (word : List ℕ) (numeral : is_short_numeral word ≡ true) where
  digits : list_all is_ascii_digit word ≡ true
  digits = (both (list_all is_ascii_digit word) (not (eqb (length word) 0) && nat_le (length word) 20) numeral).0

  long : 0 < length word
  long = let some = (both (not (eqb (length word) 0)) (nat_le (length word) 20) (both (list_all is_ascii_digit word) (not (eqb (length word) 0) && nat_le (length word) 20) numeral).1).0 in grind (arith, nat_tests)

  -- by whether its number fits
  fits_by : (t : Bool) → nat_lt (digits_value 10 word) (2 ^ 64) ≡ t → number_of_word word ≡ cond t (Some (digits_value 10 word)) None
  fits_by t fits = ap (λ (b : Bool). cond (b && nat_lt (digits_value 10 word) (2 ^ 64)) (Some (digits_value 10 word)) None) numeral ∙ ap (λ (b : Bool). cond b (Some (digits_value 10 word)) None) fits

too_great : (v n : ℕ) (t : Bool) → nat_lt v n ≡ t → ¬ (v < n) → t ≡ false
too_great v n true h not_less = absurd (not_less (grind (arith, nat_tests)))
too_great v n false h not_less = refl

by_answer : {E : Type 0} (word : List ℕ) (r : Result ℕ E) → is_short_numeral word ≡ true → OkIff r ((0 < length word) × (digits_value 10 word < 2 ^ 64)) (digits_value 10 word) → result_ok r ≡ number_of_word word
by_answer word (Ok n) numeral h = ap Some h.1 ∙ sym (fits_by word numeral true (let small = h.0.1 in grind (arith, nat_tests)))
by_answer word (Err e) numeral h =
    sym (fits_by word numeral false (too_great (digits_value 10 word) (2 ^ 64) (nat_lt (digits_value 10 word) (2 ^ 64)) refl (λ small. h (long word numeral, small))))

-- what `parse` gives of it
pub numeral_parsed : {E : Type 0} (word : List ℕ) (r : Result ℕ E) → is_short_numeral word ≡ true → ParsesUnsigned 64 10 word r → result_ok r ≡ number_of_word word
numeral_parsed word r numeral h = by_answer word r numeral (parse_digits digits_model 64 word r h (digits word numeral))

-- ---- a word that is in no call

no_number : (word : List ℕ) (t : Bool) → is_short_numeral word ≡ t → t ≡ false → number_of_word word ≡ None
no_number word t e f = ap (λ (b : Bool). cond (b && nat_lt (digits_value 10 word) (2 ^ 64)) (Some (digits_value 10 word)) None) (e ∙ f)

is_hyphen : (b : ℕ) → not (eqb b 45) ≡ false → b ≡ 45
is_hyphen b h = grind (arith, nat_tests)

pub with_hyphen : (word : List ℕ) → is_no_option word ≡ false → IsForeign word
with_hyphen [] h = absurd (cc)
with_hyphen (b ∷ bs) h = subst (λ (n : ℕ). IsForeign (n ∷ bs)) (sym (is_hyphen b h)) (refl, refl)

-- a test that isn't true
never : (t : Bool) → ¬ (t ≡ true) → t ≡ false
never true h = absurd (h refl)
never false h = refl

digits_ascii : (word : List ℕ) (i : ℕ) → list_all is_ascii_digit word ≡ true → get_or word i 0 < 128
digits_ascii word i h = ⊎_elim (λ short. let d = digit_at word i (digits_model.to word h) short in omega arith) (λ past. let e = get_or_past word i 0 past in omega arith) (cases_lt i (length word))

load_ascii : (i : ℕ) → get_or (codes "load") i 0 < 128
load_ascii zero = omega arith
load_ascii (suc zero) = omega arith
load_ascii (suc (suc zero)) = omega arith
load_ascii (suc (suc (suc zero))) = omega arith
load_ascii (suc (suc (suc (suc i)))) = omega arith

pub not_a_text : (word : List ℕ) → ¬ (IsUtf8 word) → IsForeign word
not_a_text word h = (
  never (bytes_eq word (codes "load")) (λ same. h (subst IsUtf8 (sym ((bytes_eq-Decides word (codes "load")).0 same)) (IsUtf8-from_ascii (codes "load") load_ascii))),
  no_number word (is_short_numeral word) refl (never (is_short_numeral word) (λ numeral. h (IsUtf8-from_ascii word (λ i. digits_ascii word i (digits word numeral))))),
)

no_load : (t : Bool) (n : Option ℕ) → n ≡ None → cond t (option_map call.Load n) None ≡ None
no_load true n h = ap (option_map call.Load) h
no_load false n h = refl

-- at a failure alone there is nothing
pub where_failed : {T E : Type 0} (r : Result T E) (A : T → Type 0) (B : E → Type 0) (P : Type 0) → MatchResult r A B → ((e : E) → B e → P) → IfNone (result_ok r) P
where_failed (Ok x) A B P h f = tt
where_failed (Err e) A B P h f = f e h

-- a call has none of them
pub in_no_call : (words : List (List ℕ)) (i : ℕ) → i < length words → IsForeign (get_or words i []) → call_in words ≡ None
in_no_call [] i short h = absurd (omega arith)
in_no_call (a ∷ []) i short h = refl
in_no_call (a ∷ b ∷ []) zero short h = ap (λ (t : Bool). cond t (option_map call.Load (number_of_word b)) None) h.0
in_no_call (a ∷ b ∷ []) (suc zero) short h = no_load (bytes_eq a (codes "load")) (number_of_word b) h.1
in_no_call (a ∷ b ∷ []) (suc (suc i)) short h = absurd (omega arith)
in_no_call (a ∷ b ∷ c ∷ rest) i short h = refl
