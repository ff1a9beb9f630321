-- what is counted of calls, of lists and of formulas whose references were replaced
use Rattle.std.proofs.Common.{◌≡◌, ◌+◌, ◌-◌, ◌^◌, ◌<◌, ℕ, suc, List, [], ◌∷◌, ◌++◌, refl, ap, sym, ◌∙◌, arith, max, min, take, get_or, length, Option, Some, None}
use Rattle.std.specs.Prelude.{map}
use Rattle.std.proofs.lemmas.List.{take_more}
use Rattle.std.proofs.lemmas.List.Sums.{sum_by-cons}
use Rattle.ss_base.specs.declared.types.Spot.{Spot}
use Rattle.ss_base.specs.declared.types.Span.{Span}
use Rattle.formula_tree.specs.declared.functions.Fun.{Fun}
use Rattle.formula_tree.specs.declared.expression.Expr.{Expr, Call}
use Rattle.formula_tree.specs.Tree.{Tree, Trees, num, text, fault, cell, range, pre, bin, call, none, more, trees_from}
use Rattle.formula_tree.specs.Precedence.{precedence_of, precedence_of_operator}
use Rattle.formula_tree.specs.Measures.{print_nesting, greatest_nesting, placed_nesting, node_count, node_counts, byte_count, byte_counts, name_bytes, weight_of}
use Rattle.formula_tree.specs.Remap.{Images, mapped, remap_trees, remap_spot, remap_span, cell_or_lost, range_or_lost}
use Rattle.formula_tree.specs.Erase.{tree_of}
use Rattle.formula_tree.specs.Lists.{nesting_of_all, weight_of_all}
use Rattle.formula_tree.proofs.Trees.{tree_of-call}

max_assoc : (a b c : ℕ) → max a (max b c) ≡ max (max a b) c
max_assoc a b c = omega arith

pub nesting_of_all-push : (es : List Expr) (e : Expr) → nesting_of_all (es ++ e ∷ []) ≡ max (nesting_of_all es) (print_nesting (tree_of e))
nesting_of_all-push [] e = omega arith
nesting_of_all-push (d ∷ es) e = ap (max (print_nesting (tree_of d))) (nesting_of_all-push es e) ∙ max_assoc _ _ _

greatest_listed : (es : List Expr) → greatest_nesting (trees_from (map tree_of es)) ≡ nesting_of_all es
greatest_listed [] = refl
greatest_listed (e ∷ es) = ap (max (print_nesting (tree_of e))) (greatest_listed es)

pub nesting-call : (f : Fun) (es : List Expr) → print_nesting (tree_of (Call f es)) ≡ suc (nesting_of_all es)
nesting-call f es = ap (λ (t : Tree Spot Span). print_nesting t) (tree_of-call f es) ∙ ap suc (greatest_listed es)

-- one more element of a loop
pub nesting_of_all-more : (es : List Expr) (i : ℕ) (e : Expr) (most n new : ℕ) → i < length es → e ≡ get_or es i e →
    most ≡ min (nesting_of_all (take i es)) (2 ^ 32 - 1) → n ≡ min (print_nesting (tree_of e)) (2 ^ 32 - 1) → new ≡ max most n →
    new ≡ min (nesting_of_all (take (i + 1) es)) (2 ^ 32 - 1)
nesting_of_all-more es i e most n new within item before here after =
    let step : nesting_of_all (take (i + 1) es) ≡ max (nesting_of_all (take i es)) (print_nesting (tree_of e)) =
    ap nesting_of_all (take_more es i e within) ∙ (nesting_of_all-push (take i es) (get_or es i e)
    ∙ ap (λ (x : Expr). max (nesting_of_all (take i es)) (print_nesting (tree_of x))) (sym item)) in
    rw step (capped _ _ most n new before here after)
  where
    capped : (a b most n new : ℕ) → most ≡ min a (2 ^ 32 - 1) → n ≡ min b (2 ^ 32 - 1) → new ≡ max most n → new ≡ min (max a b) (2 ^ 32 - 1)
    capped a b most n new p q r = omega arith

weight_listed : (es : List Expr) → node_counts (trees_from (map tree_of es)) + byte_counts (trees_from (map tree_of es)) ≡ weight_of_all es
weight_listed [] = refl
weight_listed (e ∷ es) = let h = weight_listed es in let s = sum_by-cons (λ (e : Expr). weight_of (tree_of e)) e es in omega arith

pub weight-call : (f : Fun) (es : List Expr) → weight_of (tree_of (Call f es)) ≡ suc (weight_of_all es + name_bytes f)
weight-call f es = ap (λ (t : Tree Spot Span). weight_of t) (tree_of-call f es) ∙ (let h = weight_listed es in omega arith)

-- references replaced change none of the counts
module _ (m : Images) where
  lost_cell : (c : Option Spot) → (precedence_of (cell_or_lost {C = Spot} {R = Span} c) ≡ 7) × (print_nesting (cell_or_lost {C = Spot} {R = Span} c) ≡ 1) × (node_count (cell_or_lost {C = Spot} {R = Span} c) ≡ 1) × (byte_count (cell_or_lost {C = Spot} {R = Span} c) ≡ 0)
  lost_cell None = (refl, refl, refl, refl)
  lost_cell (Some c) = (refl, refl, refl, refl)

  lost_range : (r : Option Span) → (precedence_of (range_or_lost {C = Spot} {R = Span} r) ≡ 7) × (print_nesting (range_or_lost {C = Spot} {R = Span} r) ≡ 1) × (node_count (range_or_lost {C = Spot} {R = Span} r) ≡ 1) × (byte_count (range_or_lost {C = Spot} {R = Span} r) ≡ 0)
  lost_range None = (refl, refl, refl, refl)
  lost_range (Some r) = (refl, refl, refl, refl)

  precedence-mapped : (t : Tree Spot Span) → precedence_of (mapped m t) ≡ precedence_of t
  precedence-mapped (num n) = refl
  precedence-mapped (text t) = refl
  precedence-mapped (fault e) = refl
  precedence-mapped (cell c) = (lost_cell (remap_spot m c)).0
  precedence-mapped (range r) = (lost_range (remap_span m r)).0
  precedence-mapped (pre op t) = refl
  precedence-mapped (bin op s t) = refl
  precedence-mapped (call f ts) = refl

  mutual
    pub nesting-mapped : (t : Tree Spot Span) → print_nesting (mapped m t) ≡ print_nesting t
    nesting-mapped (num n) = refl
    nesting-mapped (text t) = refl
    nesting-mapped (fault e) = refl
    nesting-mapped (cell c) = (lost_cell (remap_spot m c)).1
    nesting-mapped (range r) = (lost_range (remap_span m r)).1
    nesting-mapped (pre op t) = λ i. suc (placed_nesting 6 (precedence-mapped t i) (nesting-mapped t i))
    nesting-mapped (bin op s t) = λ i. suc (max (placed_nesting (precedence_of_operator op) (precedence-mapped s i) (nesting-mapped s i))
        (placed_nesting (suc (precedence_of_operator op)) (precedence-mapped t i) (nesting-mapped t i)))
    nesting-mapped (call f ts) = λ i. suc (nestings-mapped ts i)

    nestings-mapped : (ts : Trees Spot Span) → greatest_nesting (remap_trees (remap_spot m) (remap_span m) ts) ≡ greatest_nesting ts
    nestings-mapped none = refl
    nestings-mapped (more t ts) = λ i. max (nesting-mapped t i) (nestings-mapped ts i)

  mutual
    pub nodes-mapped : (t : Tree Spot Span) → node_count (mapped m t) ≡ node_count t
    nodes-mapped (num n) = refl
    nodes-mapped (text t) = refl
    nodes-mapped (fault e) = refl
    nodes-mapped (cell c) = (lost_cell (remap_spot m c)).2
    nodes-mapped (range r) = (lost_range (remap_span m r)).2
    nodes-mapped (pre op t) = λ i. suc (nodes-mapped t i)
    nodes-mapped (bin op s t) = λ i. suc (nodes-mapped s i + nodes-mapped t i)
    nodes-mapped (call f ts) = λ i. suc (node_counts-mapped ts i)

    node_counts-mapped : (ts : Trees Spot Span) → node_counts (remap_trees (remap_spot m) (remap_span m) ts) ≡ node_counts ts
    node_counts-mapped none = refl
    node_counts-mapped (more t ts) = λ i. nodes-mapped t i + node_counts-mapped ts i

  mutual
    bytes-mapped : (t : Tree Spot Span) → byte_count (mapped m t) ≡ byte_count t
    bytes-mapped (num n) = refl
    bytes-mapped (text t) = refl
    bytes-mapped (fault e) = refl
    bytes-mapped (cell c) = (lost_cell (remap_spot m c)).3
    bytes-mapped (range r) = (lost_range (remap_span m r)).3
    bytes-mapped (pre op t) = bytes-mapped t
    bytes-mapped (bin op s t) = λ i. bytes-mapped s i + bytes-mapped t i
    bytes-mapped (call f ts) = λ i. name_bytes f + byte_counts-mapped ts i

    byte_counts-mapped : (ts : Trees Spot Span) → byte_counts (remap_trees (remap_spot m) (remap_span m) ts) ≡ byte_counts ts
    byte_counts-mapped none = refl
    byte_counts-mapped (more t ts) = λ i. bytes-mapped t i + byte_counts-mapped ts i

  pub weight-mapped : (t : Tree Spot Span) → weight_of (mapped m t) ≡ weight_of t
  weight-mapped t = λ i. nodes-mapped t i + bytes-mapped t i
