-- The text that a formula is printed as. It has no spaces, and brackets go round an operand exactly where it binds more
-- loosely than its place allows: a left operand may have the operator's own precedence, a right one binds more tightly,
-- and that of a prefix sign is a prefix or stands by itself.
use Rattle.std.specs.Prelude.{ℕ, suc, nat_lt, if◌then◌else◌, List, [], ◌∷◌, ◌++◌}
use Rattle.std.specs.Fmt.{signed_decimal}
use Rattle.std.specs.List.{join_with_byte}
use Rattle.ss_base.specs.declared.types.Spot.{Spot}
use Rattle.ss_base.specs.declared.types.Span.{Span}
use Rattle.cell_addr.specs.Cells.{spot_text, span_text}
use Rattle.formula_tree.specs.Names.{name_of}
use Rattle.formula_tree.specs.Tree.{Tree, Trees, num, text, fault, cell, range, pre, bin, call, none, more}
use Rattle.formula_tree.specs.Precedence.{precedence_of, precedence_of_operator}
use Rattle.formula_tree.specs.Tokens.{doubled, error_name, sign_text}
use Rattle.formula_tree.specs.Grammar.{operator_of_sign}

-- an operand of some precedence, where its place wants at least as tight a one
abbrev pub placed_text : ℕ → ℕ → List ℕ → List ℕ
placed_text wanted precedence operand = if nat_lt precedence wanted then 40 ∷ operand ++ 41 ∷ [] else operand

-- a text in quotes, in which a `"` stands twice
abbrev pub quoted : List ℕ → List ℕ
quoted t = 34 ∷ doubled t ++ 34 ∷ []

abbrev mutual
  pub tree_text : Tree Spot Span → List ℕ
  tree_text (num n) = signed_decimal n
  tree_text (text t) = quoted t
  tree_text (fault e) = error_name e
  tree_text (cell c) = spot_text c
  tree_text (range r) = span_text r
  tree_text (pre op t) = sign_text (operator_of_sign op) ++ placed_text 6 (precedence_of t) (tree_text t)
  tree_text (bin op s t) =
      placed_text (precedence_of_operator op) (precedence_of s) (tree_text s)
      ++ (sign_text op ++ placed_text (suc (precedence_of_operator op)) (precedence_of t) (tree_text t))
  tree_text (call f ts) = name_of f ++ (40 ∷ join_with_byte 59 (argument_texts ts) ++ 41 ∷ [])

  -- of the arguments, which `;` parts
  pub argument_texts : Trees Spot Span → List (List ℕ)
  argument_texts none = []
  argument_texts (more t ts) = tree_text t ∷ argument_texts ts

-- with its leading `=`
abbrev pub formula_text : Tree Spot Span → List ℕ
formula_text t = 61 ∷ tree_text t
