-- the tokens of a tree's text, and that the text is theirs
use Rattle.std.proofs.Common.{◌≡◌, ℕ, suc, Bool, true, false, cond, nat_lt, ℤ, pos, negsuc, List, [], ◌∷◌, ◌++◌, map, refl, ap, sym, ◌∙◌, append_assoc, append-nil, decimal}
use Rattle.std.specs.List.{join_with_byte}
use Rattle.ss_base.specs.declared.types.Spot.{Spot}
use Rattle.ss_base.specs.declared.types.Span.{Span}
use Rattle.cell_addr.specs.Cells.{spot_text, span_text}
use Rattle.formula_tree.specs.Names.{name_of}
use Rattle.formula_tree.specs.Tree.{Tree, Trees, num, text, fault, cell, range, pre, bin, call, none, more}
use Rattle.formula_tree.specs.Precedence.{precedence_of, precedence_of_operator}
use Rattle.formula_tree.specs.Tokens.{TokenValue, error_name, sign_text}
use Rattle.formula_tree.specs.Tokens as token
use Rattle.formula_tree.specs.Grammar.{operator_of_sign}
use Rattle.formula_tree.specs.WellFormed.{IsWellFormed, AreWellFormed}
use Rattle.formula_tree.specs.Printed.{placed_text, quoted, tree_text, argument_texts}

-- what a token is printed as
abbrev pub token_text : TokenValue → List ℕ
token_text (token.numeral n) = decimal n
token_text (token.text t) = quoted t
token_text (token.fault e) = error_name e
token_text (token.cell c) = spot_text c
token_text (token.range r) = span_text r
token_text (token.name n) = n
token_text (token.sign op) = sign_text op
token_text token.opening = 40 ∷ []
token_text token.closing = 41 ∷ []
token_text token.semicolon = 59 ∷ []

abbrev pub token_texts : List TokenValue → List ℕ
token_texts [] = []
token_texts (t ∷ ts) = token_text t ++ token_texts ts

-- an operand's tokens, in brackets where it binds more loosely than its place wants
abbrev pub placed_tokens : ℕ → ℕ → List TokenValue → List TokenValue
placed_tokens wanted precedence ts = cond (nat_lt precedence wanted) (token.opening ∷ ts ++ token.closing ∷ []) ts

-- those of several arguments, with a semicolon between each two
abbrev pub parted_tokens : List (List TokenValue) → List TokenValue
parted_tokens [] = []
parted_tokens (ts ∷ []) = ts
parted_tokens (ts ∷ us ∷ rest) = ts ++ token.semicolon ∷ parted_tokens (us ∷ rest)

-- the number that a numeral spells
abbrev pub numeral_of : ℤ → ℕ
numeral_of (pos n) = n
numeral_of (negsuc n) = 0

abbrev mutual
  pub tree_tokens : Tree Spot Span → List TokenValue
  tree_tokens (num z) = token.numeral (numeral_of z) ∷ []
  tree_tokens (text t) = token.text t ∷ []
  tree_tokens (fault e) = token.fault e ∷ []
  tree_tokens (cell c) = token.cell c ∷ []
  tree_tokens (range r) = token.range r ∷ []
  tree_tokens (pre op t) = token.sign (operator_of_sign op) ∷ placed_tokens 6 (precedence_of t) (tree_tokens t)
  tree_tokens (bin op s t) =
      placed_tokens (precedence_of_operator op) (precedence_of s) (tree_tokens s)
      ++ token.sign op ∷ placed_tokens (suc (precedence_of_operator op)) (precedence_of t) (tree_tokens t)
  tree_tokens (call f ts) = token.name (name_of f) ∷ token.opening ∷ parted_tokens (argument_tokens ts) ++ token.closing ∷ []

  pub argument_tokens : Trees Spot Span → List (List TokenValue)
  argument_tokens none = []
  argument_tokens (more t ts) = tree_tokens t ∷ argument_tokens ts

-- texts of tokens
pub token_texts-append : (ss ts : List TokenValue) → token_texts (ss ++ ts) ≡ token_texts ss ++ token_texts ts
token_texts-append [] ts = refl
token_texts-append (s ∷ ss) ts = ap (λ (l : List ℕ). token_text s ++ l) (token_texts-append ss ts) ∙ sym (append_assoc (token_text s) (token_texts ss) (token_texts ts))

token_texts-one : (t : TokenValue) → token_texts (t ∷ []) ≡ token_text t
token_texts-one t = append-nil (token_text t)

token_texts-placed : (wanted precedence : ℕ) (ts : List TokenValue) (operand : List ℕ) → operand ≡ token_texts ts →
    placed_text wanted precedence operand ≡ token_texts (placed_tokens wanted precedence ts)
token_texts-placed wanted precedence ts operand e = by_test (nat_lt precedence wanted)
  where
    by_test : (t : Bool) → cond t (40 ∷ operand ++ 41 ∷ []) operand ≡ token_texts (cond t (token.opening ∷ ts ++ token.closing ∷ []) ts)
    by_test true = ap (λ (l : List ℕ). 40 ∷ l ++ 41 ∷ []) e ∙ ap (λ (l : List ℕ). 40 ∷ l) (sym (token_texts-append ts (token.closing ∷ [])))
    by_test false = e

token_texts-parted : (tss : List (List TokenValue)) → join_with_byte 59 (map token_texts tss) ≡ token_texts (parted_tokens tss)
token_texts-parted [] = refl
token_texts-parted (ts ∷ []) = refl
token_texts-parted (ts ∷ us ∷ rest) =
    ap (λ (l : List ℕ). token_texts ts ++ 59 ∷ l) (token_texts-parted (us ∷ rest)) ∙ sym (token_texts-append ts (token.semicolon ∷ parted_tokens (us ∷ rest)))

mutual
  -- the printed text is that of the tokens
  pub tree_text-tokens : (t : Tree Spot Span) → IsWellFormed t → tree_text t ≡ token_texts (tree_tokens t)
  tree_text-tokens (num (pos n)) w = sym (token_texts-one (token.numeral n))
  tree_text-tokens (num (negsuc n)) w = absurd w
  tree_text-tokens (text t) w = sym (token_texts-one (token.text t))
  tree_text-tokens (fault e) w = sym (token_texts-one (token.fault e))
  tree_text-tokens (cell c) w = sym (token_texts-one (token.cell c))
  tree_text-tokens (range r) w = sym (token_texts-one (token.range r))
  tree_text-tokens (pre op t) w =
      ap (λ (l : List ℕ). sign_text (operator_of_sign op) ++ l) (token_texts-placed 6 (precedence_of t) (tree_tokens t) (tree_text t) (tree_text-tokens t w))
  tree_text-tokens (bin op s t) w =
      (λ i. token_texts-placed (precedence_of_operator op) (precedence_of s) (tree_tokens s) (tree_text s) (tree_text-tokens s w.0) i
      ++ (sign_text op ++ token_texts-placed (suc (precedence_of_operator op)) (precedence_of t) (tree_tokens t) (tree_text t) (tree_text-tokens t w.1) i))
      ∙ sym (token_texts-append (placed_tokens (precedence_of_operator op) (precedence_of s) (tree_tokens s)) (token.sign op ∷ placed_tokens (suc (precedence_of_operator op)) (precedence_of t) (tree_tokens t)))
  tree_text-tokens (call f ts) w =
      ap (λ (l : List (List ℕ)). name_of f ++ (40 ∷ join_with_byte 59 l ++ 41 ∷ [])) (argument_texts-tokens ts w.1)
      ∙ (ap (λ (l : List ℕ). name_of f ++ (40 ∷ l ++ 41 ∷ [])) (token_texts-parted (argument_tokens ts))
      ∙ ap (λ (l : List ℕ). name_of f ++ 40 ∷ l) (sym (token_texts-append (parted_tokens (argument_tokens ts)) (token.closing ∷ []))))

  argument_texts-tokens : (ts : Trees Spot Span) → AreWellFormed ts → argument_texts ts ≡ map token_texts (argument_tokens ts)
  argument_texts-tokens none w = refl
  argument_texts-tokens (more t ts) w = λ i. tree_text-tokens t w.0 i ∷ argument_texts-tokens ts w.1 i
