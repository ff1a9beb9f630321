-- the tokens of a tree form the tree, with its print nesting
use Rattle.std.proofs.Common.{◌≡◌, ℕ, suc, ◌≤◌, Bool, true, false, cond, nat_lt, pos, negsuc, List, [], ◌∷◌, ◌++◌, refl, subst, arith}
use Rattle.std.proofs.lemmas.Bool.Decides.{nat_tests}
use Rattle.ss_base.specs.declared.types.Spot.{Spot}
use Rattle.ss_base.specs.declared.types.Span.{Span}
use Rattle.formula_tree.specs.Tree.{Tree, Trees, num, text, fault, cell, range, pre, bin, call, none, more}
use Rattle.formula_tree.specs.Precedence.{precedence_of, precedence_of_operator}
use Rattle.formula_tree.specs.Measures.{print_nesting, placed_nesting, greatest_nesting}
use Rattle.formula_tree.specs.Tokens.{TokenValue}
use Rattle.formula_tree.specs.Tokens as token
use Rattle.formula_tree.specs.Grammar.{Derives, Arguments, Listed}
use Rattle.formula_tree.specs.Grammar as grammar
use Rattle.formula_tree.specs.WellFormed.{IsWellFormed, AreWellFormed}
use Rattle.formula_read.proofs.Syntax.{least_precedence, most_precedence, looser}
use Rattle.formula_print.proofs.TreeTokens.{placed_tokens, parted_tokens, tree_tokens, argument_tokens}

precedence_some : (t : Tree Spot Span) → 1 ≤ precedence_of t
precedence_some (num n) = omega arith
precedence_some (text t) = omega arith
precedence_some (fault e) = omega arith
precedence_some (cell c) = omega arith
precedence_some (range r) = omega arith
precedence_some (pre op t) = omega arith
precedence_some (bin op s t) = least_precedence op
precedence_some (call f ts) = omega arith

placed : {ts : List TokenValue} {t : Tree Spot Span} {n : ℕ} (wanted precedence : ℕ) → wanted ≤ 7 → 1 ≤ precedence → Derives precedence ts t n →
    Derives wanted (placed_tokens wanted precedence ts) t (placed_nesting wanted precedence n)
placed {ts} {t} {n} wanted precedence most some d = by_test (nat_lt precedence wanted) refl
  where
    by_test : (b : Bool) → nat_lt precedence wanted ≡ b → Derives wanted (cond b (token.opening ∷ ts ++ token.closing ∷ []) ts) t (cond b (suc n) n)
    by_test true h = looser wanted 7 most (grammar.brackets (looser 1 precedence some d))
    by_test false h = looser wanted precedence (grind (arith, nat_tests)) d

-- each of several trees is formed by its tokens
abbrev AllDerive : Trees Spot Span → Type 0
AllDerive none = Unit {0}
AllDerive (more t ts) = Derives 1 (tree_tokens t) t (print_nesting t) × AllDerive ts

listed : (t : Tree Spot Span) (ts : Trees Spot Span) → Derives 1 (tree_tokens t) t (print_nesting t) → AllDerive ts →
    Listed (parted_tokens (argument_tokens (more t ts))) (more t ts) (greatest_nesting (more t ts))
listed t none d h = subst (λ (n : ℕ). Listed (tree_tokens t) (more t none) n) (omega arith) (grammar.last d)
listed t (more u us) d h = grammar.more d (listed u us h.0 h.1)

arguments : (ts : Trees Spot Span) → AllDerive ts → Arguments (parted_tokens (argument_tokens ts)) ts (greatest_nesting ts)
arguments none h = grammar.empty
arguments (more t ts) h = grammar.some (listed t ts h.0 h.1)

mutual
  derives : (t : Tree Spot Span) → IsWellFormed t → Derives (precedence_of t) (tree_tokens t) t (print_nesting t)
  derives (num (pos n)) w = grammar.numeral
  derives (num (negsuc n)) w = absurd w
  derives (text t) w = grammar.text
  derives (fault e) w = grammar.fault
  derives (cell c) w = grammar.cell
  derives (range r) w = grammar.range
  derives (pre op t) w = grammar.prefix (placed 6 (precedence_of t) (omega arith) (precedence_some t) (derives t w))
  derives (bin op s t) w =
      let most = most_precedence op in
      grammar.binary
      (placed (precedence_of_operator op) (precedence_of s) (omega arith) (precedence_some s) (derives s w.0))
      (placed (suc (precedence_of_operator op)) (precedence_of t) (omega arith) (precedence_some t) (derives t w.1))
  derives (call f ts) w = grammar.call w.0 (arguments ts (all_derive ts w.1))

  all_derive : (ts : Trees Spot Span) → AreWellFormed ts → AllDerive ts
  all_derive none w = tt
  all_derive (more t ts) w = (looser 1 (precedence_of t) (precedence_some t) (derives t w.0), all_derive ts w.1)

-- an expression
pub expression_derives : (t : Tree Spot Span) → IsWellFormed t → Derives 1 (tree_tokens t) t (print_nesting t)
expression_derives t w = looser 1 (precedence_of t) (precedence_some t) (derives t w)
