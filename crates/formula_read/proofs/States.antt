-- what stands in each state of a reader of tokens
use Rattle.std.proofs.Common.{◌≡◌, ℕ, ◌+◌, ◌-◌, ◌*◌, ◌^◌, ◌<◌, ◌≤◌, Bool, true, false, cond, ◌&&◌, ◌||◌, nat_lt, nat_eq, List, [], ◌∷◌, ◌++◌, length, take, Some, refl, ap, sym, ◌∙◌, subst, append_assoc, arith, inl, inr}
use Rattle.std.specs.Prelude.{◌⊎◌, slice_index}
use Rattle.std.specs.Char.{is_ascii_alphabetic, is_ascii_digit, digit_value}
use Rattle.std.specs.List.{list_all}
use Rattle.std.specs.Str.Parse.{IsNumeral, AllDigits, digits_value, digits_value_after}
use Rattle.std.proofs.lemmas.Bool.{and_parts, and_from, or_cases, ltb-true}
use Rattle.std.proofs.lemmas.Bool.Decides.{nat_tests}
use Rattle.std.proofs.lemmas.List.{length-append, take_more}
use Rattle.std.proofs.lemmas.List.Folds.{list_all-append}
use Rattle.ss_base.specs.declared.types.CalcErr.{CalcErr}
use Rattle.formula_tree.specs.declared.operators.BinOp.{BinOp}
use Rattle.formula_tree.specs.declared.operators.BinOp.TheVariants.{Pow, Mul, Div, Add, Sub, Join, Eq, Ne, Le, Ge}
use Rattle.formula_tree.specs.Tokens.{TokenValue, Spells, Follows, Fits, doubled, is_printable, is_name, error_name, sign_text, upper_case}
use Rattle.formula_tree.specs.Tokens as token
use Rattle.formula_read.specs.declared.kinds.TokenKind.TheVariants as kind
use Rattle.formula_read.specs.declared.partial.Partial.{Partial}
use Rattle.formula_read.specs.declared.partial.Partial.TheVariants.{Fresh, Numeral, Quoted, Closed, Hash, HashN, Error, Word, Less, Greater, Whole}
use Rattle.formula_read.specs.declared.partial.Address.{Address}
use Rattle.formula_read.specs.declared.partial.Address.TheVariants.{Cell}
use Rattle.formula_read.specs.declared.partial.Corner.TheVariants.{Letters}
use Rattle.formula_read.specs.Partial.{partial_step, fresh_step, numeral_step, quoted_step, hash_step, hash_n_step, error_step, is_single_sign, word, name_step, address_step}
use Rattle.formula_read.specs.Read.{token_kind}
use Rattle.formula_read.proofs.Choices.{on_test, nothing, same, same_number, value_of_digit, value_is_small}
use Rattle.formula_read.proofs.Corners.{one_letter}
use Rattle.formula_read.proofs.Words.{AddressHolds, address_goes, NameHolds, name_goes, IsWord, word_is}

-- numerals
more_digits : (ds : List ℕ) (b : ℕ) → AllDigits 10 ds → digit_value b < 10 → AllDigits 10 (ds ++ b ∷ [])
more_digits [] b h k = (k, tt)
more_digits (d ∷ ds) b h k = (h.0, more_digits ds b h.1 k)

value-append : (n : ℕ) (ds : List ℕ) (b : ℕ) → digits_value_after 10 n (ds ++ b ∷ []) ≡ digits_value_after 10 n ds * 10 + digit_value b
value-append n [] b = refl
value-append n (d ∷ ds) b = value-append (n * 10 + digit_value d) ds b

-- texts
doubled-append : (t : List ℕ) (b : ℕ) → doubled (t ++ b ∷ []) ≡ doubled t ++ doubled (b ∷ [])
doubled-append [] b = refl
doubled-append (c ∷ cs) b = by_quote (nat_eq c 34) (doubled-append cs b)
  where
    by_quote : (t : Bool) → doubled (cs ++ b ∷ []) ≡ doubled cs ++ doubled (b ∷ []) →
        cond t (34 ∷ 34 ∷ doubled (cs ++ b ∷ [])) (c ∷ doubled (cs ++ b ∷ [])) ≡ cond t (34 ∷ 34 ∷ doubled cs) (c ∷ doubled cs) ++ doubled (b ∷ [])
    by_quote true e = ap (λ (l : List ℕ). 34 ∷ 34 ∷ l) e
    by_quote false e = ap (λ (l : List ℕ). c ∷ l) e

printable-append : (t : List ℕ) (b : ℕ) → list_all is_printable t ≡ true → is_printable b ≡ true → list_all is_printable (t ++ b ∷ []) ≡ true
printable-append t b h k = list_all-append is_printable t (b ∷ []) ∙ and_from _ _ h (and_from _ _ k refl)

-- what stands before the next byte
abbrev pub Holds : Partial → List ℕ → Type 0
Holds Fresh p = p ≡ []
Holds (Numeral v) p = IsNumeral 10 p × (digits_value 10 p ≡ v) × (v < 2 ^ 63)
Holds Quoted p = (t : List ℕ) × (p ≡ 34 ∷ doubled t) × (list_all is_printable t ≡ true)
Holds Closed p = (t : List ℕ) × (p ≡ 34 ∷ doubled t ++ 34 ∷ []) × (list_all is_printable t ≡ true)
Holds Hash p = p ≡ 35 ∷ []
Holds HashN p = p ≡ 35 ∷ 78 ∷ []
Holds (Error e n) p = (p ≡ take n (error_name e)) × (n ≤ length (error_name e))
Holds (Word n a) p = NameHolds n p × AddressHolds a p × IsWord n a
Holds Less p = p ≡ 60 ∷ []
Holds Greater p = p ≡ 62 ∷ []
Holds (Whole k) p = (t : TokenValue) × Spells p t × (token_kind t ≡ k) × ((r : List ℕ) → Follows t r)

single_sign : (b : ℕ) → is_single_sign b ≡ true → (op : BinOp) × (sign_text op ≡ b ∷ [])
single_sign b h = at_plus (or_cases _ _ h)
  where
    found : (op : BinOp) (n : ℕ) → sign_text op ≡ n ∷ [] → nat_eq b n ≡ true → (op : BinOp) × (sign_text op ≡ b ∷ [])
    found op n e k = (op, e ∙ ap (λ (m : ℕ). m ∷ []) (sym (same_number b n k)))

    at_last : ((nat_eq b 38 ≡ true) ⊎ (nat_eq b 61 ≡ true)) → (op : BinOp) × (sign_text op ≡ b ∷ [])
    at_last (inl k) = found Join 38 refl k
    at_last (inr k) = found Eq 61 refl k

    at_power : ((nat_eq b 94 ≡ true) ⊎ ((nat_eq b 38 || nat_eq b 61) ≡ true)) → (op : BinOp) × (sign_text op ≡ b ∷ [])
    at_power (inl k) = found Pow 94 refl k
    at_power (inr k) = at_last (or_cases _ _ k)

    at_over : ((nat_eq b 47 ≡ true) ⊎ ((nat_eq b 94 || (nat_eq b 38 || nat_eq b 61)) ≡ true)) → (op : BinOp) × (sign_text op ≡ b ∷ [])
    at_over (inl k) = found Div 47 refl k
    at_over (inr k) = at_power (or_cases _ _ k)

    at_times : ((nat_eq b 42 ≡ true) ⊎ ((nat_eq b 47 || (nat_eq b 94 || (nat_eq b 38 || nat_eq b 61))) ≡ true)) → (op : BinOp) × (sign_text op ≡ b ∷ [])
    at_times (inl k) = found Mul 42 refl k
    at_times (inr k) = at_over (or_cases _ _ k)

    at_minus : ((nat_eq b 45 ≡ true) ⊎ ((nat_eq b 42 || (nat_eq b 47 || (nat_eq b 94 || (nat_eq b 38 || nat_eq b 61)))) ≡ true)) → (op : BinOp) × (sign_text op ≡ b ∷ [])
    at_minus (inl k) = found Sub 45 refl k
    at_minus (inr k) = at_times (or_cases _ _ k)

    at_plus : ((nat_eq b 43 ≡ true) ⊎ ((nat_eq b 45 || (nat_eq b 42 || (nat_eq b 47 || (nat_eq b 94 || (nat_eq b 38 || nat_eq b 61))))) ≡ true)) → (op : BinOp) × (sign_text op ≡ b ∷ [])
    at_plus (inl k) = found Add 43 refl k
    at_plus (inr k) = at_minus (or_cases _ _ k)

module _ (p : List ℕ) (b : ℕ) (next : Partial) where
  moved_to : {s : Partial} → Some s ≡ Some next → Holds s (p ++ b ∷ []) → Holds next (p ++ b ∷ [])
  moved_to m h = subst (λ (s : Partial). Holds s (p ++ b ∷ [])) (same m) h

  -- the bytes at hand and this one
  with_byte : (n : ℕ) (q : List ℕ) → p ≡ q → nat_eq b n ≡ true → p ++ b ∷ [] ≡ q ++ n ∷ []
  with_byte n q h k = λ i. h i ++ same_number b n k i ∷ []

  numeral_goes : (v : ℕ) → Holds (Numeral v) p → numeral_step v b ≡ Some next → Holds next (p ++ b ∷ [])
  numeral_goes v h m = on_test (is_ascii_digit b) _ _ next m
      (λ k m. on_test (nat_lt (v * 10 + (b - 48)) (2 ^ 63)) _ _ next m
      (λ few m. moved_to m (
        ((let size = length-append p (b ∷ []) in omega arith), more_digits p b h.0.1 (value_is_small b k)),
        (value-append 0 p b ∙ (let e = h.1 in let d = value_of_digit b k in omega arith)),
        ltb-true (v * 10 + (b - 48)) (2 ^ 63) few,
      ))
      (λ _ m. nothing m))
      (λ _ m. nothing m)

  quoted_goes : Holds Quoted p → quoted_step b ≡ Some next → Holds next (p ++ b ∷ [])
  quoted_goes (t, e, all) m = on_test (nat_eq b 34) _ _ next m
      (λ k m. moved_to m (t, with_byte 34 (34 ∷ doubled t) e k, all))
      (λ other m. on_test (is_printable b) _ _ next m
      (λ k m. moved_to m (
        t ++ b ∷ [],
        (λ i. e i ++ b ∷ []) ∙ ap (λ (l : List ℕ). 34 ∷ l) (sym (doubled-append t b ∙ ap (λ (t' : Bool). doubled t ++ cond t' (34 ∷ 34 ∷ []) (b ∷ [])) other)),
        printable-append t b all k,
      ))
      (λ _ m. nothing m))

  closed_goes : Holds Closed p → partial_step Closed b ≡ Some next → Holds next (p ++ b ∷ [])
  closed_goes (t, e, all) m = on_test (nat_eq b 34) _ _ next m
      (λ k m. moved_to m (
        t ++ 34 ∷ [],
        with_byte 34 (34 ∷ doubled t ++ 34 ∷ []) e k ∙ (append_assoc (34 ∷ doubled t) (34 ∷ []) (34 ∷ []) ∙ ap (λ (l : List ℕ). 34 ∷ l) (sym (doubled-append t 34))),
        printable-append t 34 all refl,
      ))
      (λ _ m. nothing m)

  hash_goes : Holds Hash p → hash_step b ≡ Some next → Holds next (p ++ b ∷ [])
  hash_goes h m = on_test (nat_eq b 78) _ _ next m (λ k m. moved_to m (with_byte 78 (35 ∷ []) h k))
      (λ _ m. on_test (nat_eq b 68) _ _ next m (λ k m. moved_to m (with_byte 68 (35 ∷ []) h k, omega arith))
      (λ _ m. on_test (nat_eq b 82) _ _ next m (λ k m. moved_to m (with_byte 82 (35 ∷ []) h k, omega arith))
      (λ _ m. on_test (nat_eq b 86) _ _ next m (λ k m. moved_to m (with_byte 86 (35 ∷ []) h k, omega arith))
      (λ _ m. on_test (nat_eq b 67) _ _ next m (λ k m. moved_to m (with_byte 67 (35 ∷ []) h k, omega arith))
      (λ _ m. nothing m)))))

  hash_n_goes : Holds HashN p → hash_n_step b ≡ Some next → Holds next (p ++ b ∷ [])
  hash_n_goes h m = on_test (nat_eq b 47) _ _ next m (λ k m. moved_to m (with_byte 47 (35 ∷ 78 ∷ []) h k, omega arith))
      (λ _ m. on_test (nat_eq b 65) _ _ next m (λ k m. moved_to m (with_byte 65 (35 ∷ 78 ∷ []) h k, omega arith))
      (λ _ m. on_test (nat_eq b 85) _ _ next m (λ k m. moved_to m (with_byte 85 (35 ∷ 78 ∷ []) h k, omega arith))
      (λ _ m. nothing m)))

  error_goes : (e : CalcErr) (n : ℕ) → Holds (Error e n) p → error_step e n b ≡ Some next → Holds next (p ++ b ∷ [])
  error_goes e n h m = on_test (nat_lt n (length (error_name e)) && nat_eq b (slice_index (error_name e) n)) _ _ next m
      (λ k m. let (within, byte) = and_parts (nat_lt n (length (error_name e))) (nat_eq b (slice_index (error_name e) n)) k in
      let below : n < length (error_name e) = ltb-true _ _ within in
      moved_to m ((λ i. h.0 i ++ same_number b (slice_index (error_name e) n) byte i ∷ []) ∙ sym (take_more (error_name e) n 0 below), omega arith))
      (λ _ m. nothing m)

  word_goes : (n : ℕ) (a : Address) → Holds (Word n a) p → word (name_step n b) (address_step a b) ≡ Some next → Holds next (p ++ b ∷ [])
  word_goes n a h m =
      let (s, alive) = word_is (name_step n b) (address_step a b) next m in
      subst (λ (s : Partial). Holds s (p ++ b ∷ [])) s (name_goes n p b h.0, address_goes a p b h.1, alive)

  -- a token of one byte
  whole_sign : (op : BinOp) → p ++ b ∷ [] ≡ sign_text op → Holds (Whole kind.Sign) (p ++ b ∷ [])
  whole_sign op e = (token.sign op, e, refl, λ r. tt)

  less_goes : Holds Less p → partial_step Less b ≡ Some next → Holds next (p ++ b ∷ [])
  less_goes h m = on_test (nat_eq b 61 || nat_eq b 62) _ _ next m
      (λ k m. moved_to m (by_sign (or_cases _ _ k)))
      (λ _ m. nothing m)
    where
      by_sign : ((nat_eq b 61 ≡ true) ⊎ (nat_eq b 62 ≡ true)) → Holds (Whole kind.Sign) (p ++ b ∷ [])
      by_sign (inl k) = whole_sign Le (with_byte 61 (60 ∷ []) h k)
      by_sign (inr k) = whole_sign Ne (with_byte 62 (60 ∷ []) h k)

  greater_goes : Holds Greater p → partial_step Greater b ≡ Some next → Holds next (p ++ b ∷ [])
  greater_goes h m = on_test (nat_eq b 61) _ _ next m (λ k m. moved_to m (whole_sign Ge (with_byte 61 (62 ∷ []) h k))) (λ _ m. nothing m)

  fresh_goes : Holds Fresh p → fresh_step b ≡ Some next → Holds next (p ++ b ∷ [])
  fresh_goes h m =
      on_test (is_ascii_digit b) _ _ next m
      (λ k m. moved_to m (subst (λ (q : List ℕ). Holds (Numeral (b - 48)) (q ++ b ∷ [])) (sym h)
      ((omega arith, (value_is_small b k, tt)), (let d = value_of_digit b k in omega arith), grind (arith, nat_tests))))
      (λ _ m. on_test (is_ascii_alphabetic b) _ _ next m
      (λ k m. moved_to m (subst (λ (q : List ℕ). Holds (Word 1 (Cell (Letters 1))) (q ++ b ∷ [])) (sym h)
      ((λ _. (and_from _ _ k refl, refl)), (false, b ∷ [], one_letter b k, refl), tt)))
      (λ _ m. on_test (nat_eq b 34) _ _ next m (λ k m. moved_to m ([], with_byte 34 [] h k, refl))
      (λ _ m. on_test (nat_eq b 35) _ _ next m (λ k m. moved_to m (with_byte 35 [] h k))
      (λ _ m. on_test (nat_eq b 36) _ _ next m (λ k m. moved_to m ((λ some. absurd (omega arith)), with_byte 36 [] h k, tt))
      (λ _ m. on_test (nat_eq b 40) _ _ next m (λ k m. moved_to m (token.opening, with_byte 40 [] h k, refl, λ r. tt))
      (λ _ m. on_test (nat_eq b 41) _ _ next m (λ k m. moved_to m (token.closing, with_byte 41 [] h k, refl, λ r. tt))
      (λ _ m. on_test (nat_eq b 59) _ _ next m (λ k m. moved_to m (token.semicolon, with_byte 59 [] h k, refl, λ r. tt))
      (λ _ m. on_test (nat_eq b 60) _ _ next m (λ k m. moved_to m (with_byte 60 [] h k))
      (λ _ m. on_test (nat_eq b 62) _ _ next m (λ k m. moved_to m (with_byte 62 [] h k))
      (λ _ m. on_test (is_single_sign b) _ _ next m
      (λ k m. let (op, e) = single_sign b k in moved_to m (whole_sign op ((λ i. h i ++ b ∷ []) ∙ sym e)))
      (λ _ m. nothing m)))))))))))

  pub goes : (s : Partial) → Holds s p → partial_step s b ≡ Some next → Holds next (p ++ b ∷ [])
  goes Fresh h m = fresh_goes h m
  goes (Numeral v) h m = numeral_goes v h m
  goes Quoted h m = quoted_goes h m
  goes Closed h m = closed_goes h m
  goes Hash h m = hash_goes h m
  goes HashN h m = hash_n_goes h m
  goes (Error e n) h m = error_goes e n h m
  goes (Word n a) h m = word_goes n a h m
  goes Less h m = less_goes h m
  goes Greater h m = greater_goes h m
  goes (Whole k) h m = nothing m
