-- the code of calls, and how long code is
use Rattle.std.proofs.Common.{◌≡◌, ℕ, suc, ◌+◌, ◌*◌, ◌<◌, ◌≤◌, Bool, true, false, cond, ◌&&◌, ◌||◌, List, [], ◌∷◌, ◌++◌, length, All, refl, ap, ◌∙◌, arith, length-append, pos}
use Rattle.std.specs.Prelude.{map, nat_eq}
use Rattle.std.proofs.lemmas.Bool.Decides.{nat_tests}
use Rattle.std.specs.List.{flat_map, AllByRecursion}
use Rattle.std.proofs.lemmas.List.Elements.{All-from_recursion}
use Rattle.std.proofs.lemmas.List.Folds.{flat_map-map}
use Rattle.std.proofs.lemmas.List.{length-map}
use Rattle.ss_base.specs.declared.types.Spot.{Spot}
use Rattle.ss_base.specs.declared.types.Span.{Span}
use Rattle.formula_tree.specs.declared.functions.Fun.{Fun}
use Rattle.formula_tree.specs.declared.expression.Expr.{Expr, Call}
use Rattle.formula_tree.specs.Tree.{Tree, Trees, trees_from, num, text, fault, cell, range, pre, bin, call, none, more}
use Rattle.formula_tree.specs.Measures.{node_count, node_counts}
use Rattle.formula_tree.specs.Erase.{tree_of}
use Rattle.formula_tree.proofs.Trees.{tree_of-call}
use Rattle.formula_code.specs.declared.step.Step.{Step}
use Rattle.formula_code.specs.declared.step.Step.TheVariants as step
use Rattle.formula_code.specs.Code.{code_of, codes_of, call_code, if_code, plain_call, choice_code, is_if, is_choice, expr_code}

-- ---- calls
codes_listed : (es : List Expr) → codes_of (trees_from (map tree_of es)) ≡ map expr_code es
codes_listed [] = refl
codes_listed (e ∷ es) = ap (λ (cs : List (List Step)). expr_code e ∷ cs) (codes_listed es)

call_is : (f : Fun) (es : List Expr) → expr_code (Call f es) ≡ call_code f (map expr_code es)
call_is f es = ap (λ (t : Tree Spot Span). code_of t) (tree_of-call f es) ∙ ap (call_code f) (codes_listed es)

nodes_listed : (es : List Expr) (n : ℕ) → node_counts (trees_from (map tree_of es)) < n → AllByRecursion (λ (e : Expr). node_count (tree_of e) < n) es
nodes_listed [] n h = tt
nodes_listed (e ∷ es) n h = (omega (arith, h), nodes_listed es n (omega (arith, h)))

some_node : (t : Tree Spot Span) → 1 ≤ node_count t
some_node (num n) = omega arith
some_node (text t) = omega arith
some_node (fault e) = omega arith
some_node (cell c) = omega arith
some_node (range r) = omega arith
some_node (pre op t) = omega arith
some_node (bin op s t) = omega arith
some_node (call f ts) = omega arith

pub as_many_nodes : (ts : Trees Spot Span) → length (codes_of ts) ≤ node_counts ts
as_many_nodes none = omega arith
as_many_nodes (more t ts) = let h = some_node t in let rest = as_many_nodes ts in omega arith

nodes_of_call : (f : Fun) (es : List Expr) → node_count (tree_of (Call f es)) ≡ suc (node_counts (trees_from (map tree_of es)))
nodes_of_call f es = ap (λ (t : Tree Spot Span). node_count t) (tree_of-call f es)

pub few_arguments : (f : Fun) (es : List Expr) (n : ℕ) → node_count (tree_of (Call f es)) < n → length es < n
few_arguments f es n h =
    let c = nodes_of_call f es in
    let many = as_many_nodes (trees_from (map tree_of es)) in
    let each = ap (λ (cs : List (List Step)). length cs) (codes_listed es) ∙ length-map es expr_code in
    omega arith

pub small_arguments : (f : Fun) (es : List Expr) (n : ℕ) → node_count (tree_of (Call f es)) < n → All (λ (e : Expr). node_count (tree_of e) < n) es
small_arguments f es n h =
    let c = nodes_of_call f es in
    All-from_recursion (λ (e : Expr). node_count (tree_of e) < n) es (nodes_listed es n (omega (arith, h)))

by_choice : (b : Bool) (f : Fun) (args : List (List Step)) → is_choice f (length args) ≡ b → call_code f args ≡ cond b (if_code args) (plain_call f args)
by_choice b f args e = ap (λ (t : Bool). cond t (if_code args) (plain_call f args)) e

-- a call that is a choice, and any other
pub code_of_choice : (f : Fun) (es : List Expr) → is_choice f (length es) ≡ true → expr_code (Call f es) ≡ if_code (map expr_code es)
code_of_choice f es e = call_is f es ∙ by_choice true f (map expr_code es) (ap (is_choice f) (length-map es expr_code) ∙ e)

pub code_of_plain : (f : Fun) (es : List Expr) → is_choice f (length es) ≡ false → expr_code (Call f es) ≡ flat_map expr_code es ++ step.Call f (length es) ∷ []
code_of_plain f es e =
    call_is f es ∙ (by_choice false f (map expr_code es) (ap (is_choice f) (length-map es expr_code) ∙ e)
    ∙ (λ i. flat_map-map (λ (c : List Step). c) expr_code es i ++ step.Call f (length-map es expr_code i) ∷ []))

-- ---- how long code is
choice_length : (test xs ys : List Step) → length (choice_code test xs ys) ≡ length test + length xs + length ys + 3
choice_length test xs ys =
    let a = length-append test (step.Test (length xs + 1) (length xs + 1 + (length ys + 1)) ∷ (xs ++ step.Skip (length ys + 1) ∷ (ys ++ step.Skip 0 ∷ []))) in
    let b = length-append xs (step.Skip (length ys + 1) ∷ (ys ++ step.Skip 0 ∷ [])) in
    let c = length-append ys (step.Skip 0 ∷ []) in
    omega arith

if_length : (args : List (List Step)) → length (if_code args) ≤ length (flat_map (λ (c : List Step). c) args) + 4
if_length [] = omega arith
if_length (x ∷ []) = omega arith
if_length (x ∷ y ∷ []) =
    let c = choice_length x y (step.Num (pos 0) ∷ []) in
    let a = length-append x (y ++ []) in
    let b = length-append y [] in
    omega arith
if_length (x ∷ y ∷ z ∷ rest) =
    let c = choice_length x y z in
    let a = length-append x (y ++ (z ++ flat_map (λ (c : List Step). c) rest)) in
    let b = length-append y (z ++ flat_map (λ (c : List Step). c) rest) in
    let d = length-append z (flat_map (λ (c : List Step). c) rest) in
    omega arith

call_length : (f : Fun) (args : List (List Step)) → length (call_code f args) ≤ length (flat_map (λ (c : List Step). c) args) + 4
call_length f args = by_test (is_choice f (length args))
  where
    by_test : (b : Bool) → length (cond b (if_code args) (plain_call f args)) ≤ length (flat_map (λ (c : List Step). c) args) + 4
    by_test true = if_length args
    by_test false = let a = length-append (flat_map (λ (c : List Step). c) args) (step.Call f (length args) ∷ []) in omega arith

mutual
  pub code_length : (t : Tree Spot Span) → length (code_of t) ≤ 4 * node_count t
  code_length (num n) = omega arith
  code_length (text t) = omega arith
  code_length (fault e) = omega arith
  code_length (cell c) = omega arith
  code_length (range r) = omega arith
  code_length (pre op t) = let h = code_length t in let a = length-append (code_of t) (step.Pre op ∷ []) in omega arith
  code_length (bin op s t) =
      let h = code_length s in
      let k = code_length t in
      let a = length-append (code_of s) (code_of t ++ step.Bin op ∷ []) in
      let b = length-append (code_of t) (step.Bin op ∷ []) in
      omega arith
  code_length (call f ts) = let h = call_length f (codes_of ts) in let k = codes_length ts in omega arith

  codes_length : (ts : Trees Spot Span) → length (flat_map (λ (c : List Step). c) (codes_of ts)) ≤ 4 * node_counts ts
  codes_length none = omega arith
  codes_length (more t ts) =
      let h = code_length t in
      let k = codes_length ts in
      let a = length-append (code_of t) (flat_map (λ (c : List Step). c) (codes_of ts)) in
      omega arith

pub choice_counts : (f : Fun) (n : ℕ) → is_choice f n ≡ true → (2 ≤ n) × (n ≤ 3)
choice_counts f n e = by_test (is_if f) e
  where
    by_test : (b : Bool) → (b && (nat_eq n 2 || nat_eq n 3)) ≡ true → (2 ≤ n) × (n ≤ 3)
    by_test true e = (grind (arith, nat_tests), grind (arith, nat_tests))
    by_test false e = absurd (cc)

pub choice_is_if : (f : Fun) (n : ℕ) → is_choice f n ≡ true → is_if f ≡ true
choice_is_if f n e = by_test (is_if f) e
  where
    by_test : (b : Bool) → (b && (nat_eq n 2 || nat_eq n 3)) ≡ true → b ≡ true
    by_test true e = refl
    by_test false e = absurd (cc)
