-- the tree of a formula's text is well formed, no deeper than the text, and has no more nodes than bytes
use Rattle.std.proofs.Common.{◌≡◌, ℕ, suc, ◌^◌, ◌<◌, ◌≤◌, Bool, true, false, cond, nat_lt, nat_eq, List, [], ◌∷◌, ◌++◌, length, ap, arith}
use Rattle.std.specs.List.{list_all}
use Rattle.std.proofs.lemmas.Bool.Decides.{nat_tests}
use Rattle.std.proofs.lemmas.List.{length-append}
use Rattle.ss_base.specs.declared.types.Spot.{Spot}
use Rattle.ss_base.specs.declared.types.Span.{Span}
use Rattle.formula_tree.specs.Tree.{Tree, Trees}
use Rattle.formula_tree.specs.Tree as tree
use Rattle.formula_tree.specs.Precedence.{precedence_of, precedence_of_operator}
use Rattle.formula_tree.specs.Measures.{placed_nesting, print_nesting, greatest_nesting, node_count, node_counts}
use Rattle.formula_tree.specs.WellFormed.{IsCell, IsRange, IsWellFormed, AreWellFormed, IsFormula}
use Rattle.formula_tree.specs.Tokens.{TokenValue, Spells, IsNext, is_printable, numeral, text, cell, range, sign, closing, semicolon}
use Rattle.formula_tree.specs.Lexing.{Lexeme, Lexes, space_count, past_spaces}
use Rattle.formula_tree.specs.Lexing as cut
use Rattle.formula_tree.specs.Grammar.{Derives, Arguments, Listed, Stands}
use Rattle.formula_tree.specs.Grammar as grammar
use Rattle.formula_read.specs.Places.{tokens_of}
use Rattle.formula_read.proofs.Syntax.{least_precedence}
use Rattle.formula_read.proofs.Next.{no_empty_token}
use Rattle.formula_read.proofs.Values.{cell_within, range_is_range}

-- A token that some bytes spell.
abbrev IsSpelled : TokenValue → Type 0
IsSpelled (numeral n) = n < 2 ^ 63
IsSpelled (text t) = list_all is_printable t ≡ true
IsSpelled (cell c) = IsCell c
IsSpelled (range r) = IsRange r
IsSpelled t = Unit {0}

spelled : (p : List ℕ) (t : TokenValue) → Spells p t → IsSpelled t
spelled p (numeral n) h = h.2
spelled p (text t) h = h.1
spelled p (cell c) h = cell_within p c h
spelled p (range r) h = range_is_range p r h
spelled p t h = tt

abbrev AreSpelled : List TokenValue → Type 0
AreSpelled [] = Unit {0}
AreSpelled (t ∷ ts) = IsSpelled t × AreSpelled ts

spelled_parts : (xs ys : List TokenValue) → AreSpelled (xs ++ ys) → AreSpelled xs × AreSpelled ys
spelled_parts [] ys h = (tt, h)
spelled_parts (x ∷ xs) ys h = let (front, back) = spelled_parts xs ys h.1 in ((h.0, front), back)

mutual
  derived_formed : {p n : ℕ} {ts : List TokenValue} {t : Tree Spot Span} → Derives p ts t n → AreSpelled ts → IsWellFormed t
  derived_formed (grammar.tighter d) h = derived_formed d h
  derived_formed (grammar.binary {op = op} {ss = ss} {ts = ts} d e) h =
      let (front, back) = spelled_parts ss (sign op ∷ ts) h in (derived_formed d front, derived_formed e back.1)
  derived_formed (grammar.prefix d) h = derived_formed d h.1
  derived_formed grammar.numeral h = h.0
  derived_formed grammar.text h = h.0
  derived_formed grammar.fault h = tt
  derived_formed grammar.cell h = h.0
  derived_formed grammar.range h = h.0
  derived_formed (grammar.brackets {ts = ts} d) h = derived_formed d (spelled_parts ts (closing ∷ []) h.1).0
  derived_formed (grammar.call {ts = ts} f a) h = (f, arguments_formed a (spelled_parts ts (closing ∷ []) h.1.1).0)

  arguments_formed : {n : ℕ} {ts : List TokenValue} {args : Trees Spot Span} → Arguments ts args n → AreSpelled ts → AreWellFormed args
  arguments_formed grammar.empty h = tt
  arguments_formed (grammar.some l) h = listed_formed l h

  listed_formed : {n : ℕ} {ts : List TokenValue} {args : Trees Spot Span} → Listed ts args n → AreSpelled ts → AreWellFormed args
  listed_formed (grammar.last d) h = (derived_formed d h, tt)
  listed_formed (grammar.more {ts = ts} {us = us} d l) h =
      let (front, back) = spelled_parts ts (semicolon ∷ us) h in (derived_formed d front, listed_formed l back.1)

-- The nesting of the printed text.
placed_tighter : (p q n : ℕ) → placed_nesting p q n ≤ placed_nesting (suc p) q n
placed_tighter p q n = grind (arith, nat_tests)

placed_loose : (p q n : ℕ) → p ≤ q → placed_nesting p q n ≡ n
placed_loose p q n h = ap (λ (t : Bool). cond t (suc n) n) (test p q h)
  where
    test : (p q : ℕ) → p ≤ q → nat_lt q p ≡ false
    test p q h = grind (arith, nat_tests)

placed_most : (p q n : ℕ) → placed_nesting p q n ≤ suc n
placed_most p q n = grind (arith, nat_tests)

abbrev placed : ℕ → Tree Spot Span → ℕ
placed p t = placed_nesting p (precedence_of t) (print_nesting t)

some_precedence : (t : Tree Spot Span) → 1 ≤ precedence_of t
some_precedence (tree.bin op s t) = least_precedence op
some_precedence t = omega arith

-- brackets round a tree, and none
unplaced : (t : Tree Spot Span) (n : ℕ) → placed 1 t ≤ n → print_nesting t ≤ n
unplaced t n h = let e = placed_loose 1 (precedence_of t) (print_nesting t) (some_precedence t) in omega arith

in_brackets : (t : Tree Spot Span) (n : ℕ) → placed 1 t ≤ n → placed 7 t ≤ suc n
in_brackets t n h =
    let low = unplaced t n h in
    let most = placed_most 7 (precedence_of t) (print_nesting t) in
    omega arith

mutual
  derived_shallow : {p n : ℕ} {ts : List TokenValue} {t : Tree Spot Span} → Derives p ts t n → placed p t ≤ n
  derived_shallow {p} {n} (grammar.tighter {t = t} d) = let more = derived_shallow d in let step = placed_tighter p (precedence_of t) (print_nesting t) in omega arith
  derived_shallow (grammar.binary {op = op} {s = s} {t = t} d e) =
      let left = derived_shallow d in
      let right = derived_shallow e in
      let same = placed_loose (precedence_of_operator op) (precedence_of_operator op) (print_nesting (tree.bin op s t)) (omega arith) in
      omega arith
  derived_shallow (grammar.prefix d) = let more = derived_shallow d in omega arith
  derived_shallow grammar.numeral = omega arith
  derived_shallow grammar.text = omega arith
  derived_shallow grammar.fault = omega arith
  derived_shallow grammar.cell = omega arith
  derived_shallow grammar.range = omega arith
  derived_shallow (grammar.brackets {n = n} {t = t} d) = in_brackets t n (derived_shallow d)
  derived_shallow (grammar.call f a) = let more = arguments_shallow a in omega arith

  arguments_shallow : {n : ℕ} {ts : List TokenValue} {args : Trees Spot Span} → Arguments ts args n → greatest_nesting args ≤ n
  arguments_shallow grammar.empty = omega arith
  arguments_shallow (grammar.some l) = listed_shallow l

  listed_shallow : {n : ℕ} {ts : List TokenValue} {args : Trees Spot Span} → Listed ts args n → greatest_nesting args ≤ n
  listed_shallow (grammar.last {n = n} {t = t} d) = let low = unplaced t n (derived_shallow d) in omega arith
  listed_shallow (grammar.more {m = m} {n = n} {t = t} d l) = let low = unplaced t m (derived_shallow d) in let rest = listed_shallow l in omega arith

-- Each node has a token.
mutual
  derived_small : {p n : ℕ} {ts : List TokenValue} {t : Tree Spot Span} → Derives p ts t n → node_count t ≤ length ts
  derived_small (grammar.tighter d) = derived_small d
  derived_small (grammar.binary {op = op} {ss = ss} {ts = ts} d e) =
      let left = derived_small d in let right = derived_small e in let size = length-append ss (sign op ∷ ts) in omega arith
  derived_small (grammar.prefix d) = let more = derived_small d in omega arith
  derived_small grammar.numeral = omega arith
  derived_small grammar.text = omega arith
  derived_small grammar.fault = omega arith
  derived_small grammar.cell = omega arith
  derived_small grammar.range = omega arith
  derived_small (grammar.brackets {ts = ts} d) = let more = derived_small d in let size = length-append ts (closing ∷ []) in omega arith
  derived_small (grammar.call {ts = ts} f a) = let more = arguments_small a in let size = length-append ts (closing ∷ []) in omega arith

  arguments_small : {n : ℕ} {ts : List TokenValue} {args : Trees Spot Span} → Arguments ts args n → node_counts args ≤ length ts
  arguments_small grammar.empty = omega arith
  arguments_small (grammar.some l) = listed_small l

  listed_small : {n : ℕ} {ts : List TokenValue} {args : Trees Spot Span} → Listed ts args n → node_counts args ≤ length ts
  listed_small (grammar.last d) = let more = derived_small d in omega arith
  listed_small (grammar.more {ts = ts} {us = us} d l) =
      let here = derived_small d in let rest = listed_small l in let size = length-append ts (semicolon ∷ us) in omega arith

-- The tokens of a text.
cut_spelled : {at : ℕ} {bs : List ℕ} {ls : List Lexeme} → Lexes at bs ls → AreSpelled (tokens_of ls)
cut_spelled cut.end = tt
cut_spelled (cut.next {piece = piece} {t = t} n more) = (spelled piece t n.fits.0, cut_spelled more)

some_byte : (p : List ℕ) (t : TokenValue) (r : List ℕ) → IsNext p t r → 1 ≤ length p
some_byte [] t r n = absurd (no_empty_token t r n.fits)
some_byte (b ∷ bs) t r n = omega arith

past_short : (bs : List ℕ) → length (past_spaces bs) ≤ length bs
past_short [] = omega arith
past_short (b ∷ bs) = by_space (nat_eq b 32) (past_short bs)
  where
    by_space : (t : Bool) → length (past_spaces bs) ≤ length bs → length (cond t (past_spaces bs) (b ∷ bs)) ≤ length (b ∷ bs)
    by_space true h = omega arith
    by_space false h = omega arith

cut_short : {at : ℕ} {bs : List ℕ} {ls : List Lexeme} → Lexes at bs ls → length (tokens_of ls) ≤ length bs
cut_short cut.end = omega arith
cut_short (cut.next {piece = piece} {behind = behind} {t = t} n more) =
    let rest = cut_short more in
    let some = some_byte piece t behind n in
    let past = past_short behind in
    let size = length-append piece behind in
    omega arith

pub formula_formed : (bs : List ℕ) (t : Tree Spot Span) (n : ℕ) → Stands bs t n → length bs < 2 ^ 24 → n ≤ 64 → IsFormula t
formula_formed bs t n (head, ls, l, e, d) short low = record {
  formed = derived_formed d (cut_spelled l).1;
  shallow = (let nesting = unplaced t n (derived_shallow d) in omega arith);
  small = (let nodes = derived_small d in let bytes = cut_short l in omega arith);
}
