-- Texts joined one after another.
use Rattle.std.proofs.Common.{◌≡◌, ℕ, ◌+◌, ◌-◌, ◌<◌, ◌≤◌, Bool, true, false, List, [], ◌∷◌, ◌++◌, length, map, take, drop, get_or, Result, Ok, Err, refl, sym, ap, ◌∙◌, append_assoc, arith}
use Rattle.std.specs.Prelude.{flat_map, nat_le}
use Rattle.std.proofs.lemmas.Bool.Decides.{nat_tests}
use Rattle.std.proofs.lemmas.List.{drop_more, at_drop_all, append-nil, length-append, take_all, length-take-le}
use Rattle.ss_base.specs.declared.types.CalcErr.{CalcErr}
use Rattle.ss_base.specs.declared.types.CalcErr.TheVariants as fault
use Rattle.sheet_value.specs.declared.value.Value.{Value}
use Rattle.sheet_value.specs.declared.value.Value.TheVariants as value
use Rattle.sheet_value.specs.Values.{text_value}
use Rattle.sheet_value.specs.Environment.{Environment}
use Rattle.funcs.specs.declared.arg.Arg.{Arg}
use Rattle.funcs.specs.Steps.{and_then, all_of}
use Rattle.funcs.specs.Args.{one_or_more, text}
use Rattle.funcs.specs.Texts.{concatenate_of}

-- a text that is too long is `#VALUE!`, whatever it is
too_long : (bs : List ℕ) → 127 < length bs → text_value bs ≡ value.Err fault.BadKind
too_long bs h = let e : nat_le (length bs) 127 ≡ false = grind (arith, nat_tests) in rw e refl

-- more bytes than 128 don't matter
cut_text : (bytes t more : List ℕ) → text_value ((bytes ++ take (128 - length bytes) t) ++ more) ≡ text_value ((bytes ++ t) ++ more)
cut_text bytes t more = by_test (nat_le (length t) (128 - length bytes)) refl
  where
    by_test : (b : Bool) → nat_le (length t) (128 - length bytes) ≡ b → text_value ((bytes ++ take (128 - length bytes) t) ++ more) ≡ text_value ((bytes ++ t) ++ more)
    by_test true e =
        let few : length t ≤ 128 - length bytes = grind (arith, nat_tests) in
        ap (λ (u : List ℕ). text_value ((bytes ++ u) ++ more)) (take_all (128 - length bytes) t few)
    by_test false e =
        let many : 128 - length bytes < length t = grind (arith, nat_tests) in
        let cut : length (take (128 - length bytes) t) ≡ 128 - length bytes = length-take-le (128 - length bytes) t (omega (arith, many)) in
        let l = length-append (bytes ++ take (128 - length bytes) t) more in
        let m = length-append bytes (take (128 - length bytes) t) in
        let n = length-append (bytes ++ t) more in
        let o = length-append bytes t in
        too_long ((bytes ++ take (128 - length bytes) t) ++ more) (omega (arith, l, m, cut))
        ∙ sym (too_long ((bytes ++ t) ++ more) (omega (arith, n, o, many)))

-- the value of texts joined behind some bytes
abbrev pub joined : List ℕ → Result (List (List ℕ)) CalcErr → Result Value CalcErr
joined bytes r = and_then r (λ ts. Ok (text_value (bytes ++ flat_map (λ t. t) ts)))

joined-more : (bytes t : List ℕ) (r : Result (List (List ℕ)) CalcErr) → joined bytes (and_then r (λ ts. Ok (t ∷ ts))) ≡ joined (bytes ++ take (128 - length bytes) t) r
joined-more bytes t (Ok ts) = λ i. Ok ((ap text_value (sym (append_assoc bytes t (flat_map (λ u. u) ts))) ∙ sym (cut_text bytes t (flat_map (λ u. u) ts))) i)
joined-more bytes t (Err e) = refl

module _ {A : Type 0} (text : A → Result (List ℕ) CalcErr) (bytes : List ℕ) (xs : List A) (i : ℕ) (a : A) (inside : i < length xs) (this : a ≡ get_or xs i a) where
  first : joined bytes (all_of (map text (drop i xs))) ≡ joined bytes (and_then (text a) (λ x. and_then (all_of (map text (drop (i + 1) xs))) (λ ts. Ok (x ∷ ts))))
  first = ap (λ (ys : List A). joined bytes (all_of (map text ys))) (drop_more xs i a inside)
      ∙ ap (λ (b : A). joined bytes (and_then (text b) (λ x. and_then (all_of (map text (drop (i + 1) xs))) (λ ts. Ok (x ∷ ts))))) (sym this)

  -- one more text
  pub joined-ok : (t : List ℕ) → text a ≡ Ok t → joined bytes (all_of (map text (drop i xs))) ≡ joined (bytes ++ take (128 - length bytes) t) (all_of (map text (drop (i + 1) xs)))
  joined-ok t e =
      first
      ∙ (ap (λ (r : Result (List ℕ) CalcErr). joined bytes (and_then r (λ x. and_then (all_of (map text (drop (i + 1) xs))) (λ ts. Ok (x ∷ ts))))) e
      ∙ joined-more bytes t (all_of (map text (drop (i + 1) xs))))

  -- one that is an error
  pub joined-err : (d : CalcErr) → text a ≡ Err d → joined bytes (all_of (map text (drop i xs))) ≡ Err d
  joined-err d e = first ∙ ap (λ (r : Result (List ℕ) CalcErr). joined bytes (and_then r (λ x. and_then (all_of (map text (drop (i + 1) xs))) (λ ts. Ok (x ∷ ts))))) e

-- none left
pub joined_end : {A : Type 0} (text : A → Result (List ℕ) CalcErr) (bytes : List ℕ) (xs : List A) (i : ℕ) → length xs ≤ i → joined bytes (all_of (map text (drop i xs))) ≡ Ok (text_value bytes)
joined_end text bytes xs i h = at_drop_all (λ ys. joined bytes (all_of (map text ys))) xs i h ∙ (λ i. Ok (text_value (append-nil bytes i)))

-- what CONCATENATE comes to
pub concatenated : (E : Environment) (args : List Arg) → one_or_more args ≡ Ok args → concatenate_of E args ≡ joined [] (all_of (map (λ a. text E a) args))
concatenated E args some =
    ap (λ (s : Result (List Arg) CalcErr). and_then s (λ given. and_then (all_of (map (λ a. text E a) given)) (λ ts. Ok (text_value (flat_map (λ t. t) ts))))) some
