-- the bytes of a text's tokens
use Rattle.std.proofs.Common.{◌≡◌, ℕ, zero, suc, ◌+◌, ◌-◌, ◌<◌, ◌≤◌, Bool, true, false, cond, nat_eq, List, [], ◌∷◌, ◌++◌, length, take, drop, get_or, refl, ap, sym, ◌∙◌, subst, append_assoc, arith}
use Rattle.std.specs.Prelude.{slice_range}
use Rattle.std.proofs.lemmas.List.{length-append, length-map, take_at, drop_at, drop_more, drop-map, get_or-map}
use Rattle.formula_tree.specs.Tokens.{TokenValue, Spells, opening}
use Rattle.formula_tree.specs.Lexing.{Lexeme, Lexes, space_count, past_spaces}
use Rattle.formula_tree.specs.Lexing as cut
use Rattle.formula_read.specs.declared.kinds.Token.{Token}
use Rattle.formula_read.specs.Read.{placed_token}
use Rattle.formula_read.specs.Places.{tokens_of}
use Rattle.formula_read.specs.Steps.{IsToken, AreTokens}

-- a token by its place
pub record IsAt (text : List ℕ) (l : Lexeme) : Type 0 where
  pub order : l.from ≤ l.to
  pub within : l.to ≤ length text
  pub spells : Spells (take (l.to - l.from) (drop l.from text)) l.token

abbrev AreAt : List ℕ → List Lexeme → Type 0
AreAt text [] = Unit {0}
AreAt text (l ∷ ls) = IsAt text l × AreAt text ls

split_spaces : (bs : List ℕ) → (w : List ℕ) × (bs ≡ w ++ past_spaces bs) × (length w ≡ space_count bs)
split_spaces [] = ([], refl, refl)
split_spaces (b ∷ bs) = by_space (nat_eq b 32) (split_spaces bs)
  where
    by_space : (t : Bool) → (w : List ℕ) × (bs ≡ w ++ past_spaces bs) × (length w ≡ space_count bs) →
        (w : List ℕ) × (b ∷ bs ≡ w ++ cond t (past_spaces bs) (b ∷ bs)) × (length w ≡ cond t (suc (space_count bs)) 0)
    by_space true (w, e, size) = (b ∷ w, ap (λ (l : List ℕ). b ∷ l) e, ap suc size)
    by_space false _ = ([], refl, refl)

piece_at : (front piece behind : List ℕ) (at : ℕ) → length front ≡ at → take ((at + length piece) - at) (drop at (front ++ (piece ++ behind))) ≡ piece
piece_at front piece behind at size =
    ap (take ((at + length piece) - at)) (drop_at front (piece ++ behind) at size) ∙ take_at piece behind ((at + length piece) - at) (omega arith)

cut_at : {at : ℕ} {bs : List ℕ} {ls : List Lexeme} → Lexes at bs ls → (front : List ℕ) → length front ≡ at → AreAt (front ++ bs) ls
cut_at cut.end front size = tt
cut_at (cut.next {at = at} {piece = piece} {behind = behind} {t = t} {ls = ls} n more) front size =
    let (w, split, spaces) = split_spaces behind in
    let long = length-append front (piece ++ behind) in
    let also = length-append piece behind in
    let before = front ++ (piece ++ w) in
    let size' : length before ≡ at + length piece + space_count behind = (let a = length-append front (piece ++ w) in let b = length-append piece w in omega arith) in
    let whole : before ++ past_spaces behind ≡ front ++ (piece ++ behind) =
    append_assoc front (piece ++ w) (past_spaces behind) ∙ ap (λ (l : List ℕ). front ++ l) (append_assoc piece w (past_spaces behind) ∙ ap (λ (l : List ℕ). piece ++ l) (sym split)) in (
      record {
        order = omega arith;
        within = omega arith;
        spells = subst (λ (l : List ℕ). Spells l t) (sym (piece_at front piece behind at size)) n.fits.0;
      },
      subst (λ (l : List ℕ). AreAt l ls) whole (cut_at more before size'),
    )

at_index : (text : List ℕ) (ls : List Lexeme) (i : ℕ) (d : Lexeme) → AreAt text ls → i < length ls → IsAt text (get_or ls i d)
at_index text [] i d h k = absurd (omega arith)
at_index text (l ∷ ls) zero d h k = h.0
at_index text (l ∷ ls) (suc i) d h k = at_index text ls i d h.1 (omega arith)

-- the token that the reader comes to at an index
pub record IsReached (text : List ℕ) (ls : List Lexeme) (i : ℕ) (r : Token) (l : Lexeme) : Type 0 where
  pub place : IsAt text l
  pub is : placed_token l ≡ r
  pub rest : drop i (tokens_of ls) ≡ l.token ∷ drop (i + 1) (tokens_of ls)

pub reached_at : (text : List ℕ) (ts : List Token) (ls : List Lexeme) → AreTokens ls text ts → (i : ℕ) (d : Token) → i < length ts →
    (l : Lexeme) × IsReached text ls i (get_or ts i d) l
reached_at text ts ls (l, e) i d within =
    let none : Lexeme = record { from = 0; to = 0; token = opening } in
    let size : length ts ≡ length ls = ap length e ∙ length-map ls placed_token in
    let within' : i < length ls = omega arith in (
      get_or ls i none,
      record {
        place = at_index text ls i none (cut_at l [] refl) within';
        is = sym (ap (λ (rs : List Token). get_or rs i d) e ∙ get_or-map placed_token ls i none d within');
        rest = drop-map (λ (l : Lexeme). l.token) i ls
            ∙ (ap tokens_of (drop_more ls i none within') ∙ ap (λ (us : List TokenValue). (get_or ls i none).token ∷ us) (sym (drop-map (λ (l : Lexeme). l.token) (i + 1) ls)));
      },
    )

-- its bytes spell it
pub reached_token : (text : List ℕ) (ls : List Lexeme) (i : ℕ) (r : Token) (l : Lexeme) → IsReached text ls i r l → (bytes : List ℕ) → bytes ≡ slice_range text r.from r.to → IsToken l.token r.kind bytes
reached_token text ls i r l reached bytes e =
    let whole : slice_range text l.from l.to ≡ bytes = ap (λ (r : Token). slice_range text r.from r.to) reached.is ∙ sym e in
    (ap (λ (r : Token). r.kind) reached.is, subst (λ (bs : List ℕ). Spells bs l.token) whole reached.place.spells)
