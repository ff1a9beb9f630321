-- one token more, and the end
use Rattle.std.proofs.Common.{◌≡◌, ◌≢◌, ℕ, zero, suc, ◌+◌, ◌<◌, ◌≤◌, max, Bool, true, false, cond, nat_eq, List, [], ◌∷◌, ◌++◌, length, take, drop, map, Option, Some, None, refl, ap, sym, ◌∙◌, subst, append_assoc, arith}
use Rattle.std.specs.Prelude.{IfSome}
use Rattle.std.proofs.lemmas.List.{append-nil, take-append-drop, length-take, length-drop, drop-drop}
use Rattle.formula_tree.specs.Lexing.{Lexeme, Lexes, space_count, past_spaces}
use Rattle.formula_tree.specs.Lexing as cut
use Rattle.formula_read.specs.declared.kinds.TokenKind.{TokenKind}
use Rattle.formula_read.specs.declared.kinds.Token.{Token}
use Rattle.formula_read.specs.declared.partial.Partial.TheVariants.{Fresh}
use Rattle.formula_read.specs.Longest.{longest, fronts}
use Rattle.formula_read.specs.Read.{placed_token, IsLexed, IsLongestFront}
use Rattle.formula_read.proofs.Next.{next_found, no_empty_token}
use Rattle.formula_read.proofs.Cuts.{Fails, stuck, later, front_length, not_cut, fails_front, no_further}

-- the size of what is found
pub found_size : (bs : List ℕ) (l : Option (ℕ × TokenKind)) → longest (Some Fresh) bs ≡ l → IfSome l (λ f. (0 < f.0) × (f.0 ≤ length bs))
found_size bs None h = tt
found_size bs (Some (zero, k)) h = let (t, is, within, n) = next_found bs zero k h in absurd (no_empty_token t bs n.fits)
found_size bs (Some (suc n, k)) h = let (t, is, within, _) = next_found bs (suc n) k h in (omega arith, within)

past_is : (bs : List ℕ) → past_spaces bs ≡ drop (space_count bs) bs
past_is [] = refl
past_is (b ∷ bs) = by_space (nat_eq b 32) (past_is bs)
  where
    by_space : (t : Bool) → past_spaces bs ≡ drop (space_count bs) bs → cond t (past_spaces bs) (b ∷ bs) ≡ drop (cond t (suc (space_count bs)) 0) (b ∷ bs)
    by_space true h = h
    by_space false h = refl

-- The tokens so far, and those of the rest, are those of the text.
abbrev pub CutsOn : List ℕ → ℕ → List Token → Type 0
CutsOn text at ts = (ls : List Lexeme) → Lexes at (drop at text) ls → (ms : List Lexeme) × Lexes 0 text ms × (map placed_token ms ≡ ts ++ map placed_token ls)

-- Where the rest fails, the text does.
abbrev pub FailsOn : List ℕ → ℕ → ℕ → Type 0
FailsOn text at far = (f : ℕ) → Fails (drop at text) f → Fails text (max far (at + f))

pub cuts_first : (text : List ℕ) → CutsOn text 0 []
cuts_first text ls l = (ls, l, refl)

pub fails_first : (text : List ℕ) → FailsOn text 0 0
fails_first text f h = subst (λ (n : ℕ). Fails text n) (omega arith) h

module _ (text : List ℕ) (at n : ℕ) (k : TokenKind) (here : longest (Some Fresh) (drop at text) ≡ Some (n, k)) where
  behind_token : drop (at + n + space_count (drop n (drop at text))) text ≡ past_spaces (drop n (drop at text))
  behind_token = sym (past_is (drop n (drop at text)) ∙ (ap (drop (space_count (drop n (drop at text)))) (drop-drop n at text) ∙ drop-drop (space_count (drop n (drop at text))) (at + n) text))

  pub cuts_more : (ts : List Token) → CutsOn text at ts →
      CutsOn text (at + n + space_count (drop n (drop at text))) (ts ++ record { from = at; to = at + n; kind = k } ∷ [])
  cuts_more ts cuts ls l =
      let rest = drop at text in
      let (t, is, within, next) = next_found rest n k here in
      let size : length (take n rest) ≡ n = length-take n rest ∙ (omega arith) in
      let moved = subst (λ (m : ℕ). Lexes (at + m + space_count (drop n rest)) (past_spaces (drop n rest)) ls) (sym size)
      (subst (λ (bs : List ℕ). Lexes (at + n + space_count (drop n rest)) bs ls) behind_token l) in
      let lexeme : Lexeme = record { from = at; to = at + length (take n rest); token = t } in
      let whole = subst (λ (bs : List ℕ). Lexes at bs (lexeme ∷ ls)) (take-append-drop n rest) (cut.next next moved) in
      let (ms, done, same) = cuts (lexeme ∷ ls) whole in
      (ms, done, same ∙ ((λ i. ts ++ record { from = at; to = at + size i; kind = is i } ∷ map placed_token ls) ∙ sym (append_assoc ts (record { from = at; to = at + n; kind = k } ∷ []) (map placed_token ls))))

  pub fails_more : (far reach : ℕ) → reach + 1 ≡ fronts (Some Fresh) (drop at text) → FailsOn text at far →
      FailsOn text (at + n + space_count (drop n (drop at text))) (max far (at + reach))
  fails_more far reach reaches fails f h =
      let rest = drop at text in
      let (t, is, within, next) = next_found rest n k here in
      let size : length (take n rest) ≡ n = length-take n rest ∙ (omega arith) in
      let moved = subst (λ (bs : List ℕ). Fails bs f) behind_token h in
      let whole = subst (λ (bs : List ℕ). Fails bs (max (front_length bs) (length (take n rest) + (space_count (drop n rest) + f)))) (take-append-drop n rest) (later next moved) in
      subst (λ (m : ℕ). Fails text m) (omega arith) (fails _ whole)

-- where no token stands
pub fails_here : (text : List ℕ) (at far reach : ℕ) → at < length text → longest (Some Fresh) (drop at text) ≡ None → reach + 1 ≡ fronts (Some Fresh) (drop at text) →
    FailsOn text at far → Fails text (max far (at + reach))
fails_here text at far reach within none reaches fails =
    let some : drop at text ≢ [] = λ e. absurd (let size = ap length e in let left = length-drop at text in omega arith) in
    subst (λ (m : ℕ). Fails text m) (omega arith) (fails (front_length (drop at text)) (stuck none some))

pub failed_outside : (text : List ℕ) (p : ℕ) → Fails text p → IsLexed text → ⊥
failed_outside text p h (ls, l) = not_cut h 0 ls l

pub failed_place : (text : List ℕ) (p : ℕ) → Fails text p → IsLongestFront text p
failed_place text p h =
    let (within, (w, cuts)) = fails_front h in
    let (ls, l) = cuts 0 in
    record {
      within = within;
      front = (w, ls, l);
      longest = (λ q few (v, ls, l).
          let most = no_further h (take q text) (drop q text) v 0 ls (sym (take-append-drop q text)) l in
          let size = length-take q text in
          omega arith);
    }

-- the end
pub cuts_end : (text : List ℕ) (at : ℕ) (ts : List Token) → length text ≤ at → CutsOn text at ts → (ls : List Lexeme) × Lexes 0 text ls × (ts ≡ map placed_token ls)
cuts_end text at ts past cuts =
    let empty : drop at text ≡ [] = nothing_left (drop at text) (let left = length-drop at text in omega arith) in
    let (ms, l, e) = cuts [] (subst (λ (bs : List ℕ). Lexes at bs []) (sym empty) cut.end) in
    (ms, l, sym (e ∙ append-nil ts))
  where
    nothing_left : (bs : List ℕ) → length bs ≡ 0 → bs ≡ []
    nothing_left [] h = refl
    nothing_left (b ∷ bs) h = absurd (omega arith)
