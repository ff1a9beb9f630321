-- one more token, by its kind and its bytes
use Rattle.std.proofs.Common.{◌≡◌, ℕ, true, List, [], ◌∷◌, ◌++◌, Some, None, Ok, ap, sym, ◌∙◌, subst}
use Rattle.std.specs.Prelude.{reverse}
use Rattle.std.proofs.lemmas.List.{reverse-append}
use Rattle.ss_base.specs.declared.types.Span.{Span}
use Rattle.cell_addr.specs.Cells.{range_of}
use Rattle.formula_tree.specs.declared.expression.Expr.{Text, Range}
use Rattle.formula_tree.specs.declared.functions.Fun.{Fun}
use Rattle.formula_tree.specs.Tree as tree
use Rattle.formula_tree.specs.Names.{name_of}
use Rattle.formula_tree.specs.WellFormed.{IsFun}
use Rattle.formula_tree.specs.Tokens.{TokenValue, is_name, upper_case, doubled, text, range, name}
use Rattle.formula_read.specs.declared.kinds.TokenKind.TheVariants as kind
use Rattle.formula_read.specs.declared.stack.Frame.{Frame}
use Rattle.formula_read.specs.declared.stack.Frame.TheVariants.{Call}
use Rattle.formula_read.specs.declared.stack.Side.{Side}
use Rattle.formula_read.specs.declared.stack.Side.TheVariants.{Named}
use Rattle.formula_read.specs.FunctionNames.{function_named}
use Rattle.formula_read.specs.Nested.{NestedList, no_arguments}
use Rattle.formula_read.specs.Stack.{leaf_of, begun}
use Rattle.formula_read.specs.Steps.{IsToken, MakesLeaf, IsStepOutcome}
use Rattle.formula_read.proofs.Choices.{nothing, same}
use Rattle.formula_read.proofs.NamedFunctions.{function_of_name}
use Rattle.formula_read.proofs.Spellings.{one_text}
use Rattle.formula_read.proofs.Values.{spelled_range}

-- the stack after a frame is put on it
put_on : (p : Side) (old new : List Frame) (f g : Frame) → new ≡ old ++ f ∷ [] → g ≡ f → IsStepOutcome (Ok p) new (Some (record { side = p; frames = g ∷ reverse old }))
put_on p old new f g e same i = record { side = p; frames = frames i }
  where
    frames : g ∷ reverse old ≡ reverse new
    frames = ap (λ (f : Frame). f ∷ reverse old) same ∙ sym (ap reverse e ∙ reverse-append old (f ∷ []))

name_token : (t : TokenValue) (bytes : List ℕ) → IsToken t kind.Name bytes → (is_name bytes ≡ true) × (t ≡ name (upper_case bytes))
name_token (name n) bytes h = (h.1.0, ap name h.1.1)
name_token t bytes h = let e = h.0 in absurd (cc)

-- a function's name
pub name_begun : (t : TokenValue) (bytes : List ℕ) (fun : Fun) (args : NestedList) (old new : List Frame) → IsToken t kind.Name bytes → IsFun fun → name_of fun ≡ upper_case bytes → args ≡ no_arguments →
    new ≡ old ++ Call fun args ∷ [] → IsStepOutcome (Ok Named) new (begun (reverse old) t)
name_begun t bytes fun args old new h f named none e =
    subst (λ (t : TokenValue). IsStepOutcome (Ok Named) new (begun (reverse old) t)) (sym (name_token t bytes h).1)
    (put_on Named old new (Call fun args) (Call (function_named (upper_case bytes)) no_arguments) e (λ i. Call (sym (function_of_name fun (upper_case bytes) f named) i) (sym none i)))

-- what stands by itself, by its kind and its bytes
pub text_leaf : (t : TokenValue) (bytes x : List ℕ) → IsToken t kind.Text bytes → bytes ≡ 34 ∷ doubled x ++ 34 ∷ [] → MakesLeaf (Ok (Text x)) (leaf_of t)
text_leaf (text y) bytes x h e = let same_value = one_text bytes x y e h.1.0 in λ i. tree.text (same_value i)
text_leaf t bytes x h e = let k = h.0 in absurd (cc)

pub range_leaf : (t : TokenValue) (bytes : List ℕ) (x : Span) → IsToken t kind.Range bytes → range_of bytes ≡ Some x → MakesLeaf (Ok (Range x)) (leaf_of t)
range_leaf (range y) bytes x h e = let same_value = same (sym e ∙ spelled_range bytes y h.1) in λ i. tree.range (same_value i)
range_leaf t bytes x h e = let k = h.0 in absurd (cc)

pub no_range : (t : TokenValue) (bytes : List ℕ) → IsToken t kind.Range bytes → range_of bytes ≡ None → leaf_of t ≡ None
no_range (range y) bytes h e = nothing (sym e ∙ spelled_range bytes y h.1)
no_range t bytes h e = let k = h.0 in absurd (cc)
