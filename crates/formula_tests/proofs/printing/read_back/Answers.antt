use Rattle.std.proofs.Common.{◌≡◌, ◌∙◌, Ok, Err, Result, inl, inr}
use Rattle.std.specs.Prelude.{◌⊎◌}
use Rattle.ss_base.specs.declared.types.Spot.{Spot}
use Rattle.ss_base.specs.declared.types.Span.{Span}
use Rattle.formula_tree.specs.Tree.{Tree}
use Rattle.formula_tree.specs.Erase.{tree_of}
use Rattle.formula_read.specs.declared.kinds.ParseErr.{ParseErr}
use Rattle.formula_read.specs.declared.kinds.ParseErr.TheVariants.{Deep, Memory}
use Rattle.formula_tests.proofs.printing.read_back.Goals as goal

-- what the law leaves of an answer
same_formula : (answer : Result (Tree Spot Span) ParseErr) (f t : Tree Spot Span) → answer ≡ Ok f → (answer ≡ Ok t) ⊎ (answer ≡ Err Memory) → f ≡ t
same_formula answer f t is (inl same) = cc
same_formula answer f t is (inr other) = absurd (cc)

not_deep : (answer : Result (Tree Spot Span) ParseErr) (t : Tree Spot Span) → answer ≡ Err Deep → (answer ≡ Ok t) ⊎ (answer ≡ Err Memory) → ⊥
not_deep answer t is (inl same) = cc
not_deep answer t is (inr other) = cc

pub returns-in-Ok : goal.returns-in-Ok
returns-in-Ok c =
    let reads = rw (c.in_ok-text.ensures.text, c.new.ensures) at c.parse.ensures.tree in
    same_formula c.parse.result c.in-Ok.formula _ c.in-Ok.is (c.formulas_are_read_back.ensures.answer (tree_of c.args.expr) c.parse.result c.requires.formula reads)

pub unreachable-requires-in-Err-Deep : goal.unreachable-requires-in-Err-Deep
unreachable-requires-in-Err-Deep c =
    let reads = rw (c.in_ok-text.ensures.text, c.new.ensures) at c.parse.ensures.tree in
    not_deep c.parse.result _ (c.in-Err-Deep.is ∙ (λ i. Err (c.in-Err-Deep.field-0-is i)))
    (c.formulas_are_read_back.ensures.answer (tree_of c.args.expr) c.parse.result c.requires.formula reads)
