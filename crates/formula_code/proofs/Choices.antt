-- what a choice passes over, written once its branches stand
use Rattle.std.proofs.Common.{◌≡◌, ℕ, ◌+◌, ◌-◌, ◌^◌, ◌<◌, ◌≤◌, All, pos, List, [], ◌∷◌, ◌++◌, length, get_or, Option, Some, None, ap, sym, ◌∙◌, arith, append_assoc, length-append}
use Rattle.std.specs.Prelude.{map, slice_set, slice_get}
use Rattle.std.proofs.Math.Seq.{set-append_seam}
use Rattle.formula_tree.specs.declared.expression.Expr.{Expr}
use Rattle.formula_code.specs.declared.step.Step.{Step}
use Rattle.formula_code.specs.declared.step.Step.TheVariants.{Num, Test, Skip}
use Rattle.formula_tree.specs.Erase.{tree_of}
use Rattle.formula_tree.specs.Measures.{node_count}
use Rattle.formula_code.specs.Code.{choice_code, if_code, expr_code}
use Rattle.formula_code.proofs.Calls.{code_length}

two_written : (base xs ys : List Step) (p q i j : Step) → slice_set (slice_set (base ++ p ∷ (xs ++ q ∷ ys)) (length base) i) (length (base ++ i ∷ xs)) j ≡ base ++ i ∷ (xs ++ j ∷ ys)
two_written base xs ys p q i j =
    ap (λ (l : List Step). slice_set l (length (base ++ i ∷ xs)) j) (set-append_seam base p (xs ++ q ∷ ys) i ∙ sym (append_assoc base (i ∷ xs) (q ∷ ys)))
    ∙ (set-append_seam (base ++ i ∷ xs) q ys j ∙ append_assoc base (i ∷ xs) (j ∷ ys))

-- the steps that stand after each piece of a choice was appended
pub choice_written : (base test xs ys s1 s2 s3 s4 s5 s6 : List Step) (p q : Step) (n1 n2 n3 : ℕ) →
    s1 ≡ base ++ test → n1 ≡ length s1 → s2 ≡ s1 ++ p ∷ [] → s3 ≡ s2 ++ xs → n2 ≡ length s3 → s4 ≡ s3 ++ q ∷ [] → s5 ≡ s4 ++ ys → n3 ≡ length s5 → s6 ≡ s5 ++ Skip 0 ∷ [] →
    slice_set (slice_set s6 n1 (Test (n2 - n1) (n2 - n1 + (n3 - n2)))) n2 (Skip (n3 - n2)) ≡ base ++ choice_code test xs ys
choice_written base test xs ys s1 s2 s3 s4 s5 s6 p q n1 n2 n3 e1 m1 e2 e3 m2 e4 e5 m3 e6 =
    let l2 = ap length e2 ∙ length-append s1 (p ∷ []) in
    let l3 = ap length e3 ∙ length-append s2 xs in
    let l4 = ap length e4 ∙ length-append s3 (q ∷ []) in
    let l5 = ap length e5 ∙ length-append s4 ys in
    let i = Test (length xs + 1) (length xs + 1 + (length ys + 1)) in
    let j = Skip (length ys + 1) in
    let d1 : n2 - n1 ≡ length xs + 1 = omega arith in
    let d2 : n3 - n2 ≡ length ys + 1 = omega arith in
    let at2 : n2 ≡ length (s1 ++ i ∷ xs) = omega (arith, length-append s1 (i ∷ xs)) in
    let pieces : s6 ≡ ((((s1 ++ p ∷ []) ++ xs) ++ q ∷ []) ++ ys) ++ Skip 0 ∷ [] = cc in
    let flat : ((((s1 ++ p ∷ []) ++ xs) ++ q ∷ []) ++ ys) ++ Skip 0 ∷ [] ≡ s1 ++ p ∷ (xs ++ q ∷ (ys ++ Skip 0 ∷ [])) = simp append_assoc in
    (λ k. slice_set (slice_set ((pieces ∙ flat) k) (m1 k) (Test (d1 k) (d1 k + d2 k))) (at2 k) (Skip (d2 k)))
    ∙ (two_written s1 xs (ys ++ Skip 0 ∷ []) p q i j
    ∙ (ap (λ (l : List Step). l ++ i ∷ (xs ++ j ∷ (ys ++ Skip 0 ∷ []))) e1 ∙ append_assoc base test (i ∷ (xs ++ j ∷ (ys ++ Skip 0 ∷ [])))))

-- the second branch, 0 when left out
abbrev pub otherwise : Option Expr → List Step
otherwise None = Num (pos 0) ∷ []
otherwise (Some y) = expr_code y

pub choice_of_arguments : (args : List Expr) (a b : Expr) → 2 ≤ length args → a ≡ get_or args 0 a → b ≡ get_or args 1 b → choice_code (expr_code a) (expr_code b) (otherwise (slice_get args 2)) ≡ if_code (map expr_code args)
choice_of_arguments [] a b many p q = absurd (omega (arith, many))
choice_of_arguments (x ∷ []) a b many p q = absurd (omega (arith, many))
choice_of_arguments (x ∷ y ∷ []) a b many p q = λ k. choice_code (expr_code (p k)) (expr_code (q k)) (Num (pos 0) ∷ [])
choice_of_arguments (x ∷ y ∷ z ∷ rest) a b many p q = λ k. choice_code (expr_code (p k)) (expr_code (q k)) (expr_code z)

-- how far the ends of the branches stand apart
pub branch_lengths : (base test xs ys s1 s2 s3 s4 s5 : List Step) (p q : Step) (n1 n2 n3 : ℕ) →
    s1 ≡ base ++ test → n1 ≡ length s1 → s2 ≡ s1 ++ p ∷ [] → s3 ≡ s2 ++ xs → n2 ≡ length s3 → s4 ≡ s3 ++ q ∷ [] → s5 ≡ s4 ++ ys → n3 ≡ length s5 →
    (n2 - n1 ≡ length xs + 1) × (n3 - n2 ≡ length ys + 1)
branch_lengths base test xs ys s1 s2 s3 s4 s5 p q n1 n2 n3 e1 m1 e2 e3 m2 e4 e5 m3 =
    let l2 = ap length e2 ∙ length-append s1 (p ∷ []) in
    let l3 = ap length e3 ∙ length-append s2 xs in
    let l4 = ap length e4 ∙ length-append s3 (q ∷ []) in
    let l5 = ap length e5 ∙ length-append s4 ys in
    (omega arith, omega arith)

-- the second branch is short where each argument is
pub otherwise_length : (args : List Expr) → All (λ (e : Expr). node_count (tree_of e) < 2 ^ 24) args → length (otherwise (slice_get args 2)) < 2 ^ 26
otherwise_length [] h = omega arith
otherwise_length (x ∷ []) h = omega arith
otherwise_length (x ∷ y ∷ []) h = omega arith
otherwise_length (x ∷ y ∷ z ∷ rest) h = let a = code_length (tree_of z) in let b : node_count (tree_of z) < 2 ^ 24 = h 2 z (omega arith) in omega arith
