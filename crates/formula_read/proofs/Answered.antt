-- what the reader of trees answers for a text
use Rattle.std.proofs.Common.{◌≡◌, ℕ, ◌+◌, ◌^◌, ◌<◌, ◌≤◌, List, ◌∷◌, length, drop, Option, Some, None, Ok, Err, ap, sym, ◌∙◌, subst, arith}
use Rattle.std.specs.Prelude.{Result, reverse}
use Rattle.ss_base.specs.declared.types.Spot.{Spot}
use Rattle.ss_base.specs.declared.types.Span.{Span}
use Rattle.formula_tree.specs.Tree.{Tree}
use Rattle.formula_tree.specs.WellFormed.{IsFormula}
use Rattle.formula_tree.specs.Tokens.{TokenValue}
use Rattle.formula_tree.specs.Lexing.{Lexeme, Lexes}
use Rattle.formula_tree.specs.Grammar.{Stands, IsFormulaText}
use Rattle.formula_read.specs.declared.kinds.ParseErr.{ParseErr}
use Rattle.formula_read.specs.declared.kinds.ParseErr.TheVariants.{At}
use Rattle.formula_read.specs.declared.tree_err.TreeErr.{TreeErr}
use Rattle.formula_read.specs.declared.tree_err.TreeErr.TheVariants as tree_err
use Rattle.formula_read.specs.declared.stack.Frame.{Frame}
use Rattle.formula_read.specs.declared.stack.Side.{Side}
use Rattle.formula_read.specs.Nested.{Nested}
use Rattle.formula_read.specs.Readings.{ReadAs}
use Rattle.formula_read.specs.Places.{tokens_of}
use Rattle.formula_read.specs.Stack.{State, start, stepped, state_after, finished_at}
use Rattle.formula_read.specs.Steps.{IsStepOutcome, Answers}
use Rattle.formula_read.proofs.Choices.{nothing}
use Rattle.formula_read.proofs.Derived.{expression_walked}
use Rattle.formula_read.proofs.Spellings.{one_cut}
use Rattle.formula_read.proofs.Formed.{formula_formed}
use Rattle.formula_read.proofs.Nestings.{refused_step}

-- where a step leads
given_some : (p : Side) (fs : List Frame) (o : Option State) → IsStepOutcome (Ok p) fs o → o ≡ Some (record { side = p; frames = reverse fs })
given_some p fs None h = absurd h
given_some p fs (Some s) h = ap Some h

-- One more token of a walk.
module _ (ts : List TokenValue) (i : ℕ) (t : TokenValue) (side : Side) (frames : List Frame) (rest : drop i ts ≡ t ∷ drop (i + 1) ts)
    (so_far : finished_at (state_after (Some start) ts) ≡ finished_at (state_after (Some (record { side = side; frames = reverse frames })) (drop i ts))) where
  one_more : finished_at (state_after (Some start) ts) ≡ finished_at (state_after (stepped side (reverse frames) t) (drop (i + 1) ts))
  one_more = so_far ∙ ap (λ (us : List TokenValue). finished_at (state_after (Some (record { side = side; frames = reverse frames })) us)) rest

  pub walk_goes : (p : Side) (fs : List Frame) → IsStepOutcome (Ok p) fs (stepped side (reverse frames) t) →
      finished_at (state_after (Some start) ts) ≡ finished_at (state_after (Some (record { side = p; frames = reverse fs })) (drop (i + 1) ts))
  walk_goes p fs h = one_more ∙ ap (λ (o : Option State). finished_at (state_after o (drop (i + 1) ts))) (given_some p fs (stepped side (reverse frames) t) h)

  pub walk_refused : (e : TreeErr) (fs : List Frame) → IsStepOutcome (Err e) fs (stepped side (reverse frames) t) → Answers (Err e) (finished_at (state_after (Some start) ts))
  walk_refused e fs h = subst (λ (o : Option Nested). Answers (Err e) o) (sym one_more) (refused_step e fs (stepped side (reverse frames) t) (drop (i + 1) ts) h)

-- The tokens of a formula's text lead to its tree and nesting.
text_walked : (text : List ℕ) (ls : List Lexeme) (t : Tree Spot Span) (n : ℕ) → Lexes 0 text ls → Stands text t n →
    finished_at (state_after (Some start) (tokens_of ls)) ≡ Some (record { tree = t; nesting = n })
text_walked text ls t n l (head, ms, m, e, d) =
    ap (λ (ls : List Lexeme). finished_at (state_after (Some start) (tokens_of ls))) (one_cut l (head ∷ ms) m) ∙ expression_walked head.token (tokens_of ms) t n d

module _ (text : List ℕ) (ls : List Lexeme) (l : Lexes 0 text ls) where
  abbrev answer : Option Nested
  answer = finished_at (state_after (Some start) (tokens_of ls))

  pub answer_deep : Answers (Err tree_err.Deep) answer → (t : Tree Spot Span) (n : ℕ) → Stands text t n → 64 < n
  answer_deep h t n stands = subst (λ (o : Option Nested). Answers (Err tree_err.Deep) o) (text_walked text ls t n l stands) h

  pub answer_outside : Answers (Err tree_err.Outside) answer → IsFormulaText text → ⊥
  answer_outside h (t, n, stands) = nothing (sym h ∙ text_walked text ls t n l stands)

  answer_is : (x : Nested) → Answers (Ok x) answer → (t : Tree Spot Span) (n : ℕ) → Stands text t n → x ≡ record { tree = t; nesting = n }
  answer_is x h t n stands = subst (λ (o : Option Nested). Answers (Ok x) o) (text_walked text ls t n l stands) h

  pub answer_formed : (x : Nested) → Answers (Ok x) answer → IsFormulaText text → length text < 2 ^ 24 → x.nesting ≤ 64 → IsFormula x.tree
  answer_formed x h (t, n, stands) short low =
      let e = answer_is x h t n stands in
      let nesting : x.nesting ≡ n = λ i. (e i).nesting in
      subst IsFormula (λ i. (sym e i).tree) (formula_formed text t n stands short (omega arith))

  pub answer_read : (x : Nested) → Answers (Ok x) answer → x.nesting ≤ 64 → (f : Tree Spot Span) → f ≡ x.tree → (t : Tree Spot Span) (n : ℕ) → Stands text t n → ReadAs (Ok f) t n
  answer_read x h low f whole t n stands =
      let e = answer_is x h t n stands in
      let nesting : x.nesting ≡ n = λ i. (e i).nesting in
      (whole ∙ (λ i. (e i).tree), omega arith)

-- a formula's text isn't refused at a place
pub no_place : (text : List ℕ) (r : Result (Tree Spot Span) ParseErr) (p : ℕ) → r ≡ Err (At p) → ((t : Tree Spot Span) (n : ℕ) → Stands text t n → ReadAs r t n) → IsFormulaText text → ⊥
no_place text r p e reads (t, n, stands) = subst (λ (r : Result (Tree Spot Span) ParseErr). ReadAs r t n) e (reads t n stands)
