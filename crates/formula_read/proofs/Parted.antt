-- a token that the bytes behind it can't go on with is the next one
use Rattle.std.proofs.Common.{◌≡◌, ◌≢◌, ℕ, ◌<◌, ◌≤◌, Bool, true, false, cond, ◌&&◌, ◌||◌, nat_lt, nat_eq, List, [], ◌∷◌, ◌++◌, length, Option, Some, None, refl, ap, sym, ◌∙◌, subst, arith, inl, inr}
use Rattle.std.specs.Prelude.{◌⊎◌}
use Rattle.std.specs.Char.{is_ascii_digit}
use Rattle.std.proofs.lemmas.Bool.{and_parts, cases_lt}
use Rattle.std.proofs.lemmas.Bool.Decides.{nat_tests}
use Rattle.formula_tree.specs.Tokens.{TokenValue, Fits, IsNext, is_name_byte, error_name}
use Rattle.formula_tree.specs.Tokens as token
use Rattle.formula_read.specs.declared.kinds.TokenKind.{TokenKind}
use Rattle.formula_read.specs.declared.kinds.TokenKind.TheVariants as kind
use Rattle.formula_read.specs.declared.partial.Partial.{Partial}
use Rattle.formula_read.specs.declared.partial.Partial.TheVariants.{Fresh, Numeral, Closed, Error, Word, Less, Greater, Whole}
use Rattle.formula_read.specs.declared.partial.Address.{Address}
use Rattle.formula_read.specs.declared.partial.Address.TheVariants.{Cell, Range}
use Rattle.formula_read.specs.declared.partial.Corner.TheVariants.{Digits}
use Rattle.formula_read.specs.Partial.{partial_step, kind_at, is_open, address_kind}
use Rattle.formula_read.specs.Longest.{partial_after, first_byte}
use Rattle.formula_read.specs.Read.{token_kind}
use Rattle.formula_read.specs.Behind.{may_join, goes_on}
use Rattle.formula_read.proofs.Choices.{on_test, nothing, same, same_number}
use Rattle.formula_read.proofs.Forms.{Ends, complete, plain_ends, name_ends, run-append}
use Rattle.formula_read.proofs.Words.{run_cell, run_range}
use Rattle.formula_read.proofs.Splits.{shorter_front, some_left}
use Rattle.formula_read.proofs.Cuts.{closed_word}
use Rattle.formula_read.proofs.Next.{one_end, name_by_kind}

-- neither of two tests
neither : (x y : Bool) → (x || y) ≡ false → (x ≡ false) × (y ≡ false)
neither true y h = absurd (cc)
neither false y h = (refl, h)

and_false : (x : Bool) → (x && false) ≡ false
and_false true = refl
and_false false = refl

not_below : (m n : ℕ) → nat_eq m n ≡ true → nat_lt m n ≡ false
not_below m n h = grind (arith, nat_tests)

no_digit : (b : ℕ) → is_name_byte b ≡ false → is_ascii_digit b ≡ false
no_digit b h = grind (arith, nat_tests)

-- an address ends before a byte that it can't go on with
cell_ends : (n m b : ℕ) → may_join kind.Cell b ≡ false → partial_step (Word n (Cell (Digits m))) b ≡ None
cell_ends n m b h =
    let (byte, rest) = neither (is_name_byte b) (nat_eq b 58 || nat_eq b 40) h in
    let (colon, _) = neither (nat_eq b 58) (nat_eq b 40) rest in
    let digit = no_digit b byte in
    rw (byte, colon, digit)

range_ends : (n m b : ℕ) → may_join kind.Range b ≡ false → partial_step (Word n (Range (Digits m))) b ≡ None
range_ends n m b h =
    let (byte, _) = neither (is_name_byte b) (nat_eq b 58 || nat_eq b 40) h in
    let digit = no_digit b byte in
    rw (byte, digit)

address_ends : (n : ℕ) (a : Address) (k : TokenKind) (b : ℕ) → address_kind a ≡ Some k → may_join k b ≡ false → partial_step (Word n a) b ≡ None
address_ends n (Cell (Digits m)) k b e h = cell_ends n m b (subst (λ (k : TokenKind). may_join k b ≡ false) (sym (same e)) h)
address_ends n (Range (Digits m)) k b e h = range_ends n m b (subst (λ (k : TokenKind). may_join k b ≡ false) (sym (same e)) h)
address_ends n a k b e h = nothing e

-- a token's end, before a byte that it can't go on with, is where the reader stops
stops_before : (s : Partial) (k : TokenKind) (b : ℕ) → kind_at s (Some b) ≡ Some k → may_join k b ≡ false → partial_step s b ≡ None
stops_before (Numeral v) k b e h = let other : is_ascii_digit b ≡ false = subst (λ (k : TokenKind). may_join k b ≡ false) (sym (same e)) h in rw other
stops_before Closed k b e h = let other : nat_eq b 34 ≡ false = subst (λ (k : TokenKind). may_join k b ≡ false) (sym (same e)) h in rw other
stops_before (Error f n) k b e h = on_test (nat_eq n (length (error_name f))) _ _ k e
    (λ t _. let past = not_below n (length (error_name f)) t in rw past)
    (λ _ m. nothing m)
stops_before (Word n a) k b e h = on_test (nat_lt 0 n && nat_eq b 40) _ _ k e
    (λ t _. let (_, open') = and_parts (nat_lt 0 n) (nat_eq b 40) t in
    subst (λ (b : ℕ). partial_step (Word n a) b ≡ None) (sym (same_number b 40 open')) (closed_word n a))
    (λ _ m. address_ends n a k b m h)
stops_before Less k b e h = let other : (nat_eq b 61 || nat_eq b 62) ≡ false = subst (λ (k : TokenKind). may_join k b ≡ false) (sym (same e)) h in rw other
stops_before Greater k b e h =
    let (other, _) = neither (nat_eq b 61) (nat_eq b 62) (subst (λ (k : TokenKind). may_join k b ≡ false) (sym (same e)) h) in
    rw other
stops_before (Whole j) k b e h = refl
stops_before s k b e h = nothing e

-- no token goes on with the bytes
abbrev Stops : Partial → List ℕ → Type 0
Stops s [] = Unit {0}
Stops s (b ∷ bs) = partial_step s b ≡ None

stops_here : (s : Partial) (k : TokenKind) (r : List ℕ) → kind_at s (first_byte r) ≡ Some k → goes_on k r ≡ false → Stops s r
stops_here s k [] e h = tt
stops_here s k (b ∷ bs) e h = stops_before s k b e h

-- then no longer token fits
not_longer : (p r : List ℕ) (s : Partial) (q : List ℕ) (u : TokenValue) (w : List ℕ) → partial_after (Some Fresh) p ≡ Some s → Stops s r → q ++ w ≡ p ++ r → Fits q u w → length q ≤ length p
not_longer p r s q u w runs stops e f = by_length (cases_lt (length p) (length q))
  where
    by_rest : (z : List ℕ) → q ≡ p ++ z → r ≡ z ++ w → z ≢ [] → length q ≤ length p
    by_rest [] front rest some = absurd (some refl)
    by_rest (b ∷ z) front rest some =
        let (k, (v, reads, _)) = complete q u w f in
        let stop : partial_step s b ≡ None = subst (λ (l : List ℕ). Stops s l) rest stops in
        let dead : partial_after (Some Fresh) q ≡ None =
        ap (λ (l : List ℕ). partial_after (Some Fresh) l) front ∙ (run-append (Some Fresh) p (b ∷ z) ∙ (ap (λ (o : Option Partial). partial_after o (b ∷ z)) runs ∙ ap (λ (o : Option Partial). partial_after o z) stop)) in
        absurd (let clash : None ≡ Some v = sym dead ∙ reads in cc)

    by_length : ((length p < length q) ⊎ (length q ≤ length p)) → length q ≤ length p
    by_length (inl long) = let (z, front, rest) = shorter_front p r q w (sym e) (omega arith) in by_rest z front rest (some_left p z q front long)
    by_length (inr few) = few

-- where each token ends
not_open : (r : List ℕ) → goes_on kind.Cell r ≡ false → is_open (first_byte r) ≡ false
not_open [] h = refl
not_open (b ∷ bs) h =
    let (_, rest) = neither (is_name_byte b) (nat_eq b 58 || nat_eq b 40) h in
    let (_, other) = neither (nat_eq b 58) (nat_eq b 40) rest in
    other

word_ends : (n : ℕ) (a : Address) (k : TokenKind) (next : Option ℕ) → address_kind a ≡ Some k → is_open next ≡ false → kind_at (Word n a) next ≡ Some k
word_ends n a k next e h =
    ap (λ (t : Bool). cond (nat_lt 0 n && t) (Some kind.Name) (address_kind a)) h
    ∙ (ap (λ (t : Bool). cond t (Some kind.Name) (address_kind a)) (and_false (nat_lt 0 n)) ∙ e)

token_ends : (p : List ℕ) (t : TokenValue) (r : List ℕ) → Fits p t r → goes_on (token_kind t) r ≡ false → Ends p r (token_kind t)
token_ends p (token.cell c) r h other =
    let (n, m, runs) = run_cell p c h.0 in
    (Word n (Cell (Digits m)), runs, word_ends n (Cell (Digits m)) kind.Cell (first_byte r) refl (not_open r other))
token_ends p (token.range s) r h other =
    let (first, last, a, b, e, f, l, _) = h.0 in
    let (n, m, runs) = run_range p first last a b e f l in
    (Word n (Range (Digits m)), runs, word_ends n (Range (Digits m)) kind.Range (first_byte r) refl (not_open r other))
token_ends p (token.name n) r h other = name_ends p n r h
token_ends p t r h other = plain_ends p t r refl h

pub parted_next : (p : List ℕ) (t : TokenValue) (r : List ℕ) → Fits p t r → goes_on (token_kind t) r ≡ false → IsNext p t r
parted_next p t r h other =
    let (s, runs, ends) = token_ends p t r h other in
    let stops = stops_here s (token_kind t) r ends other in
    record {
      fits = h;
      longest = (λ q u w e f. not_longer p r s q u w runs stops e f);
      named = (λ n f. name_by_kind t p n (one_end p r (token_kind t) kind.Name (s, runs, ends) (name_ends p n r f)) h.0 f.0.1);
    }
