-- a token's bytes and its kind say which it is
use Rattle.std.proofs.Common.{◌≡◌, ℕ, Bool, true, false, cond, ◌&&◌, ◌+◌, nat_lt, List, [], ◌∷◌, ◌++◌, length, Option, Some, refl, ap, sym, ◌∙◌, subst, inl, inr}
use Rattle.std.specs.Prelude.{◌⊎◌}
use Rattle.std.specs.List.{find}
use Rattle.std.specs.Str.{bytes_eq}
use Rattle.std.proofs.lemmas.List.{append_cancel_right}
use Rattle.ss_base.specs.declared.types.Spot.{Spot}
use Rattle.ss_base.specs.declared.types.Span.{Span}
use Rattle.ss_base.specs.declared.types.CalcErr.{CalcErr}
use Rattle.ss_base.specs.declared.types.CalcErr.TheVariants.{Div0, Na, NoName, BadNum, Lost, BadKind, Circ}
use Rattle.formula_tree.specs.declared.operators.BinOp.{BinOp}
use Rattle.formula_tree.specs.declared.operators.BinOp.TheVariants.{Pow, Mul, Div, Add, Sub, Join, Eq, Ne, Lt, Le, Gt, Ge}
use Rattle.formula_tree.specs.Tokens.{TokenValue, Spells, Fits, IsNext, doubled, error_name, sign_text}
use Rattle.formula_tree.specs.Tokens.{numeral, text, fault, cell, range, name, sign, opening, closing, semicolon}
use Rattle.formula_tree.specs.Tree.{Tree}
use Rattle.formula_tree.specs.Grammar.{Derives, Stands}
use Rattle.formula_tree.specs.Lexing.{Lexeme, Lexes, space_count, past_spaces}
use Rattle.formula_tree.specs.Lexing as cut
use Rattle.formula_read.specs.declared.kinds.TokenKind.TheVariants as kind
use Rattle.formula_read.specs.declared.partial.Partial.TheVariants.{Fresh, Word}
use Rattle.formula_read.specs.declared.partial.Address.{Address}
use Rattle.formula_read.specs.declared.partial.Address.TheVariants.{Cell, Range}
use Rattle.formula_read.specs.declared.partial.Corner.TheVariants.{Digits}
use Rattle.formula_read.specs.Partial.{address_kind, is_open}
use Rattle.formula_read.specs.Longest.{partial_after, first_byte}
use Rattle.formula_read.specs.declared.kinds.TokenKind.{TokenKind}
use Rattle.formula_read.specs.Read.{token_kind}
use Rattle.formula_read.specs.Places.{tokens_of}
use Rattle.formula_read.proofs.Choices.{same}
use Rattle.formula_read.proofs.Forms.{Ends, fresh_holds, sound, name_ends, plain_ends}
use Rattle.formula_read.proofs.Words.{run_cell, run_range}
use Rattle.formula_read.proofs.Next.{one_end, no_empty_token}
use Rattle.formula_read.proofs.Cuts.{one_next}
use Rattle.formula_read.proofs.Derived.{one_derivation}
use Rattle.formula_read.proofs.Values.{undoubled, undoubled-doubled, spelled_range}

-- the operator of a sign's bytes
signs : List BinOp
signs = Pow ∷ Mul ∷ Div ∷ Add ∷ Sub ∷ Join ∷ Eq ∷ Ne ∷ Lt ∷ Le ∷ Gt ∷ Ge ∷ []

sign_of : List ℕ → Option BinOp
sign_of p = find (λ op. bytes_eq (sign_text op) p) signs

sign_of-sign_text : (op : BinOp) → sign_of (sign_text op) ≡ Some op
unfolding sign_of signs
sign_of-sign_text Pow = refl
sign_of-sign_text Mul = refl
sign_of-sign_text Div = refl
sign_of-sign_text Add = refl
sign_of-sign_text Sub = refl
sign_of-sign_text Join = refl
sign_of-sign_text Eq = refl
sign_of-sign_text Ne = refl
sign_of-sign_text Lt = refl
sign_of-sign_text Le = refl
sign_of-sign_text Gt = refl
sign_of-sign_text Ge = refl

one_sign : (p : List ℕ) (o q : BinOp) → p ≡ sign_text o → p ≡ sign_text q → o ≡ q
one_sign p o q h e = same (sym (sign_of-sign_text o) ∙ (ap sign_of (sym h ∙ e) ∙ sign_of-sign_text q))

-- the error of a name's bytes
errors : List CalcErr
errors = Div0 ∷ Na ∷ NoName ∷ BadNum ∷ Lost ∷ BadKind ∷ Circ ∷ []

error_of : List ℕ → Option CalcErr
error_of p = find (λ e. bytes_eq (error_name e) p) errors

error_of-error_name : (e : CalcErr) → error_of (error_name e) ≡ Some e
unfolding error_of errors
error_of-error_name Div0 = refl
error_of-error_name Na = refl
error_of-error_name NoName = refl
error_of-error_name BadNum = refl
error_of-error_name Lost = refl
error_of-error_name BadKind = refl
error_of-error_name Circ = refl

one_error : (p : List ℕ) (d e : CalcErr) → p ≡ error_name d → p ≡ error_name e → d ≡ e
one_error p d e h k = same (sym (error_of-error_name d) ∙ (ap error_of (sym h ∙ k) ∙ error_of-error_name e))

-- the text of quoted bytes
behind_quote : {xs ys : List ℕ} → 34 ∷ xs ≡ 34 ∷ ys → xs ≡ ys
behind_quote e = cc

pub one_text : (p s t : List ℕ) → p ≡ 34 ∷ doubled s ++ 34 ∷ [] → p ≡ 34 ∷ doubled t ++ 34 ∷ [] → s ≡ t
one_text p s t h e =
    let inner : doubled s ≡ doubled t = append_cancel_right (doubled s) (doubled t) (34 ∷ []) (behind_quote (sym h ∙ e)) in
    sym (undoubled-doubled s) ∙ (ap undoubled inner ∙ undoubled-doubled t)

pub one_spelling : (p : List ℕ) (t u : TokenValue) → token_kind t ≡ token_kind u → Spells p t → Spells p u → t ≡ u
one_spelling p (numeral m) (numeral n) k h e = ap numeral (sym h.1 ∙ e.1)
one_spelling p (numeral m) u k h e = absurd (cc)
one_spelling p (text s) (text t) k h e = ap text (one_text p s t h.0 e.0)
one_spelling p (text s) u k h e = absurd (cc)
one_spelling p (fault d) (fault f) k h e = ap fault (one_error p d f h e)
one_spelling p (fault d) u k h e = absurd (cc)
one_spelling p (cell a) (cell b) k h e = ap cell (same (sym h ∙ e))
one_spelling p (cell a) u k h e = absurd (cc)
one_spelling p (range r) (range s) k h e = ap range (same (sym (spelled_range p r h) ∙ spelled_range p s e))
one_spelling p (range r) u k h e = absurd (cc)
one_spelling p (name m) (name n) k h e = ap name (h.1 ∙ sym e.1)
one_spelling p (name m) u k h e = absurd (cc)
one_spelling p (sign o) (sign q) k h e = ap sign (one_sign p o q h e)
one_spelling p (sign o) u k h e = absurd (cc)
one_spelling p opening opening k h e = refl
one_spelling p opening u k h e = absurd (cc)
one_spelling p closing closing k h e = refl
one_spelling p closing u k h e = absurd (cc)
one_spelling p semicolon semicolon k h e = refl
one_spelling p semicolon u k h e = absurd (cc)

-- the reader ends the next token of a text with its kind
named_kind : (p : List ℕ) (t : TokenValue) (r : List ℕ) → IsNext p t r → Ends p r kind.Name → token_kind t ≡ kind.Name
named_kind p t r n (s, runs, ends) =
    let (u, fits, is) = sound s p r kind.Name (fresh_holds p s runs) ends in by_name u fits is
  where
    by_name : (u : TokenValue) → Fits p u r → token_kind u ≡ kind.Name → token_kind t ≡ kind.Name
    by_name (name m) fits is = ap token_kind (n.named m fits)
    by_name u fits is = absurd (cc)

word_ends : (p : List ℕ) (t : TokenValue) (r : List ℕ) (m : ℕ) (a : Address) → IsNext p t r → partial_after (Some Fresh) p ≡ Some (Word m a) → address_kind a ≡ Some (token_kind t) → Ends p r (token_kind t)
word_ends p t r m a n runs whole = by_test (nat_lt 0 m && is_open (first_byte r)) refl
  where
    by_test : (b : Bool) → (nat_lt 0 m && is_open (first_byte r)) ≡ b → Ends p r (token_kind t)
    by_test true k =
        let ends : Ends p r kind.Name = (Word m a, runs, ap (λ (b : Bool). cond b (Some kind.Name) (address_kind a)) k) in
        subst (λ (k : TokenKind). Ends p r k) (sym (named_kind p t r n ends)) ends
    by_test false k = (Word m a, runs, ap (λ (b : Bool). cond b (Some kind.Name) (address_kind a)) k ∙ whole)

pub next_ends : (p : List ℕ) (t : TokenValue) (r : List ℕ) → IsNext p t r → Ends p r (token_kind t)
next_ends p (cell c) r n = let (k, m, runs) = run_cell p c n.fits.0 in word_ends p (cell c) r k (Cell (Digits m)) n runs refl
next_ends p (range s) r n = let (first, last, a, b, e, f, l, _) = n.fits.0 in
    let (k, m, runs) = run_range p first last a b e f l in word_ends p (range s) r k (Range (Digits m)) n runs refl
next_ends p (name m) r n = name_ends p m r n.fits
next_ends p t r n = plain_ends p t r refl n.fits

one_token : (p : List ℕ) (t u : TokenValue) (r : List ℕ) → IsNext p t r → IsNext p u r → t ≡ u
one_token p t u r n m = one_spelling p t u (one_end p r (token_kind t) (token_kind u) (next_ends p t r n) (next_ends p u r m)) n.fits.0 m.fits.0

-- a text has one list of tokens
some_piece : (p : List ℕ) (t : TokenValue) (r : List ℕ) → IsNext p t r → p ++ r ≡ [] → ⊥
some_piece [] t r n e = no_empty_token t r n.fits
some_piece (b ∷ bs) t r n e = cc

-- a list of tokens, taken apart
abbrev pub Parts : ℕ → List ℕ → List Lexeme → Type 0
Parts at bs ls = ((bs ≡ []) × (ls ≡ [])) ⊎ ((piece : List ℕ) × (behind : List ℕ) × (t : TokenValue) × (more : List Lexeme) × (bs ≡ piece ++ behind) × IsNext piece t behind
    × Lexes (at + length piece + space_count behind) (past_spaces behind) more × (ls ≡ record { from = at; to = at + length piece; token = t } ∷ more))

pub parts : {at : ℕ} {bs : List ℕ} {ls : List Lexeme} → Lexes at bs ls → Parts at bs ls
parts cut.end = inl (refl, refl)
parts (cut.next {piece = piece} {behind = behind} {t = t} {ls = ls} n more) = inr (piece, behind, t, ls, refl, n, more, refl)

pub one_cut : {at : ℕ} {bs : List ℕ} {ls : List Lexeme} → Lexes at bs ls → (ms : List Lexeme) → Lexes at bs ms → ls ≡ ms
one_cut {at} cut.end ms l = by_parts (parts l)
  where
    by_parts : Parts at [] ms → [] ≡ ms
    by_parts (inl (e, none)) = sym none
    by_parts (inr (p, b, u, rest, e, m, l, whole)) = absurd (some_piece p u b m (sym e))
one_cut {at} (cut.next {piece = piece} {behind = behind} {t = t} {ls = ls} n more) ms l = by_parts (parts l) (λ ms l. one_cut more ms l)
  where
    by_parts : Parts at (piece ++ behind) ms → ((ms : List Lexeme) → Lexes (at + length piece + space_count behind) (past_spaces behind) ms → ls ≡ ms) →
        record { from = at; to = at + length piece; token = t } ∷ ls ≡ ms
    by_parts (inl (e, none)) again = absurd (some_piece piece t behind n e)
    by_parts (inr (p, b, u, rest, e, m, l, whole)) again =
        let (pieces, behinds) = one_next piece t behind p u b n m e in
        let back : (p, b) ≡ (piece, behind) = λ i. (sym pieces i, sym behinds i) in
        let also = subst (λ (z : List ℕ × List ℕ). IsNext z.0 u z.1) back m in
        let tokens = one_token piece t u behind n also in
        let tails = again rest (subst (λ (z : List ℕ × List ℕ). Lexes (at + length z.0 + space_count z.1) (past_spaces z.1) rest) back l) in
        (λ i. record { from = at; to = at + length (pieces i); token = tokens i } ∷ tails i) ∙ sym whole

-- a text is one formula's, with one nesting
pub one_formula : (bs : List ℕ) (t u : Tree Spot Span) (n m : ℕ) → Stands bs t n → Stands bs u m → (t ≡ u) × (n ≡ m)
one_formula bs t u n m (head, ls, l, _, d) (first, ms, k, _, e) =
    let whole = one_cut l (first ∷ ms) k in
    let rest : ls ≡ ms = same_tail whole in
    one_derivation (tokens_of ms) t u n m (subst (λ (l : List Lexeme). Derives 1 (tokens_of l) t n) rest d) e
  where
    same_tail : {a b : Lexeme} {xs ys : List Lexeme} → a ∷ xs ≡ b ∷ ys → xs ≡ ys
    same_tail e = cc
