-- printed texts read back
use Rattle.std.proofs.Common.{◌≡◌, ℕ, ◌≤◌, List, Ok, Err, Result, refl, ap, arith, inl, inr}
use Rattle.std.specs.Prelude.{◌⊎◌, ◌↔◌}
use Rattle.ss_base.specs.declared.types.Spot.{Spot}
use Rattle.ss_base.specs.declared.types.Span.{Span}
use Rattle.formula_tree.specs.Tree.{Tree}
use Rattle.formula_tree.specs.Grammar.{Stands}
use Rattle.formula_tree.specs.Measures.{print_nesting}
use Rattle.formula_tree.specs.Printed.{formula_text}
use Rattle.formula_tree.specs.WellFormed.{IsFormula}
use Rattle.formula_read.specs.declared.kinds.ParseErr.{ParseErr}
use Rattle.formula_read.specs.declared.kinds.ParseErr.TheVariants.{At, Deep, Memory}
use Rattle.formula_read.specs.Readings.{ReadAs}
use Rattle.formula_print.proofs.Cut.{FindsNext, text_stands}
use Rattle.formula_print.proofs.Spelled.{ReadsCells}

-- a text stands for one tree at most
abbrev ReadsOne : Type 0
ReadsOne = (bs : List ℕ) (t u : Tree Spot Span) (n m : ℕ) → Stands bs t n → Stands bs u m → (t ≡ u) × (n ≡ m)

pub printed_stands : ReadsCells → FindsNext → ReadsOne → (t u : Tree Spot Span) (n : ℕ) → IsFormula t → Stands (formula_text t) u n ↔ ((u ≡ t) × (n ≡ print_nesting t))
printed_stands reads finds one t u n formula =
    let stands = text_stands reads finds t formula.formed in
    (λ other. one (formula_text t) u t n (print_nesting t) other stands, λ (tree, nesting). rw (tree, nesting) stands)

pub one_answer : (t : Tree Spot Span) (n : ℕ) → n ≤ 64 → (answer : Result (Tree Spot Span) ParseErr) → ReadAs answer t n → (answer ≡ Ok t) ⊎ (answer ≡ Err Memory)
one_answer t n shallow (Ok f) read = inl (ap Ok read.0)
one_answer t n shallow (Err Deep) read = absurd (omega (arith, shallow, read))
one_answer t n shallow (Err Memory) read = inr refl
one_answer t n shallow (Err (At p)) read = absurd read
