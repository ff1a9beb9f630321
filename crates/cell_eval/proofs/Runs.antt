-- the steps of a tree's code leave what the tree means
use Rattle.std.proofs.Common.{◌≡◌, ℕ, ℤ, pos, zero, suc, ◌+◌, ◌^◌, ◌<◌, ◌≤◌, Bool, true, false, cond, ◌&&◌, List, [], ◌∷◌, ◌++◌, length, take, drop, reverse, Option, Some, None, Result, Ok, Err, refl, ap, sym, ◌∙◌, subst, arith, append_assoc, append-nil, length-append}
use Rattle.std.specs.Prelude.{nat_le, nat_lt}
use Rattle.std.proofs.lemmas.List.{length-reverse, reverse-append, reverse-reverse}
use Rattle.std.proofs.Math.Seq.{take-append_seam, drop-append_seam}
use Rattle.std.specs.List.{flat_map}
use Rattle.std.specs.Option.{option_and_then}
use Rattle.std.proofs.lemmas.Bool.Decides.{nat_tests}
use Rattle.ss_base.specs.declared.types.Spot.{Spot}
use Rattle.ss_base.specs.declared.types.Span.{Span}
use Rattle.ss_base.specs.declared.types.CalcErr.{CalcErr}
use Rattle.sheet_value.specs.declared.value.Value.{Value}
use Rattle.sheet_value.specs.declared.value.Value.TheVariants as value
use Rattle.sheet_value.specs.Environment.{Environment}
use Rattle.formula_tree.specs.declared.functions.Fun.{Fun}
use Rattle.formula_tree.specs.declared.functions.Fun.TheVariants as fun
use Rattle.formula_tree.specs.Tree.{Tree, Trees, num, text, fault, cell, range, pre, bin, call, none, more}
use Rattle.formula_tree.specs.Measures.{node_count, node_counts}
use Rattle.formula_code.specs.declared.step.Step.{Step}
use Rattle.formula_code.specs.declared.step.Step.TheVariants as step
use Rattle.formula_code.specs.Code.{code_of, codes_of, call_code, if_code, plain_call, choice_code, is_if, is_choice}
use Rattle.formula_code.proofs.Calls.{as_many_nodes, choice_counts, choice_is_if}
use Rattle.funcs.specs.declared.arg.Arg.{Arg}
use Rattle.funcs.specs.declared.arg.Arg.TheVariants as arg
use Rattle.funcs.specs.Args.{value_of_argument, number}
use Rattle.funcs.specs.Calls.{call_of}
use Rattle.funcs.specs.Scalars.{if_of}
use Rattle.funcs.specs.Numbers.{is_zero}
use Rattle.funcs.specs.Steps.{answer, and_then}
use Rattle.cell_eval.specs.Operators.{prefixed, combined}
use Rattle.cell_eval.specs.Meaning.{argument, meaning, arguments}
use Rattle.cell_eval.specs.Machine.{tested, after_step, run}

module _ (E : Environment) where
  -- as many steps are passed over as these are
  passed : (xs rest : List Step) (stack : List Arg) → run E (length xs) (xs ++ rest) stack ≡ run E 0 rest stack
  passed [] rest stack = refl
  passed (x ∷ xs) rest stack = passed xs rest stack

  pub dropped : (k : ℕ) (xs : List Step) (stack : List Arg) → run E k xs stack ≡ run E 0 (drop k xs) stack
  dropped zero xs stack = refl
  dropped (suc k) [] stack = refl
  dropped (suc k) (x ∷ xs) stack = dropped k xs stack

  pub argument_value : (t : Tree Spot Span) → value_of_argument E (argument t (meaning E t)) ≡ meaning E t
  argument_value (num n) = refl
  argument_value (text t) = refl
  argument_value (fault e) = refl
  argument_value (cell s) = refl
  argument_value (range s) = refl
  argument_value (pre op t) = refl
  argument_value (bin op s t) = refl
  argument_value (call f ts) = refl

  argument_count : (ts : Trees Spot Span) → length (arguments E ts) ≡ length (codes_of ts)
  argument_count none = refl
  argument_count (more t ts) = ap suc (argument_count ts)

  -- ---- a call with the uppermost arguments
  take_top : (xs stack : List Arg) → take (length xs) (reverse xs ++ stack) ≡ reverse xs
  take_top xs stack = ap (λ (n : ℕ). take n (reverse xs ++ stack)) (sym (length-reverse xs)) ∙ take-append_seam (reverse xs) stack

  drop_top : (xs stack : List Arg) → drop (length xs) (reverse xs ++ stack) ≡ stack
  drop_top xs stack = ap (λ (n : ℕ). drop n (reverse xs ++ stack)) (sym (length-reverse xs)) ∙ drop-append_seam (reverse xs) stack

  -- the stack after a call of f with the n uppermost arguments
  abbrev CallMoves : Fun → ℕ → List Arg → Option (ℕ × List Arg)
  CallMoves f n stack = Some (0, arg.One (answer (call_of f E (reverse (take n stack)))) ∷ drop n stack)

  call_moves : (f : Fun) (xs stack : List Arg) (n : ℕ) → n ≡ length xs → n < 2 ^ 24 →
      after_step E (step.Call f n) (reverse xs ++ stack) ≡ Some (0, arg.One (answer (call_of f E xs)) ∷ stack)
  call_moves f xs stack n e few =
      let enough : nat_le n (length (reverse xs ++ stack)) && nat_lt n (2 ^ 24) ≡ true = grind (arith, nat_tests, length-append (reverse xs) stack, length-reverse xs) in
      by_test _ enough ∙ (ap (λ (k : ℕ). CallMoves f k (reverse xs ++ stack)) e ∙ (λ i. Some (0, arg.One (answer (call_of f E (given i))) ∷ drop_top xs stack i)))
    where
      by_test : (b : Bool) → b ≡ true → cond b (CallMoves f n (reverse xs ++ stack)) None ≡ CallMoves f n (reverse xs ++ stack)
      by_test b h = ap (λ (t : Bool). cond t (CallMoves f n (reverse xs ++ stack)) None) h

      given : reverse (take (length xs) (reverse xs ++ stack)) ≡ xs
      given = ap (λ (l : List Arg). reverse l) (take_top xs stack) ∙ reverse-reverse xs

  -- ---- a choice
  -- the code of an argument leaves it on top
  abbrev Leaves : List Step → Arg → Type 0
  Leaves code a = (rest : List Step) (stack : List Arg) → run E 0 (code ++ rest) stack ≡ run E 0 rest (a ∷ stack)

  module _ (test xs ys : List Step) (a b c : Arg) (runs_test : Leaves test a) (runs_xs : Leaves xs b) (runs_ys : Leaves ys c) (rest : List Step) (stack : List Arg) where
    first : run E 0 (xs ++ step.Skip (length ys + 1) ∷ (ys ++ step.Skip 0 ∷ rest)) stack ≡ run E 0 rest (arg.One (value_of_argument E b) ∷ stack)
    first =
        let on_top = arg.One (value_of_argument E b) ∷ stack in
        let many : length ys + 1 ≡ length (ys ++ step.Skip 0 ∷ []) = sym (length-append ys (step.Skip 0 ∷ [])) in
        runs_xs (step.Skip (length ys + 1) ∷ (ys ++ step.Skip 0 ∷ rest)) stack
        ∙ ((λ i. run E (many i) (sym (append_assoc ys (step.Skip 0 ∷ []) rest) i) on_top) ∙ passed (ys ++ step.Skip 0 ∷ []) rest on_top)

    second : run E (length xs + 1) (xs ++ step.Skip (length ys + 1) ∷ (ys ++ step.Skip 0 ∷ rest)) stack ≡ run E 0 rest (arg.One (value_of_argument E c) ∷ stack)
    second =
        let end = step.Skip (length ys + 1) ∷ [] in
        let many : length xs + 1 ≡ length (xs ++ end) = sym (length-append xs end) in
        (λ i. run E (many i) (sym (append_assoc xs end (ys ++ step.Skip 0 ∷ rest)) i) stack)
        ∙ (passed (xs ++ end) (ys ++ step.Skip 0 ∷ rest) stack ∙ runs_ys (step.Skip 0 ∷ rest) stack)

    neither : (s : List Arg) → run E (length xs + 1 + (length ys + 1)) (xs ++ step.Skip (length ys + 1) ∷ (ys ++ step.Skip 0 ∷ rest)) s ≡ run E 0 rest s
    neither s =
        let all = xs ++ step.Skip (length ys + 1) ∷ (ys ++ step.Skip 0 ∷ []) in
        let l = length-append xs (step.Skip (length ys + 1) ∷ (ys ++ step.Skip 0 ∷ [])) in
        let k = length-append ys (step.Skip 0 ∷ []) in
        let many : length xs + 1 + (length ys + 1) ≡ length all = omega arith in
        let flat : xs ++ step.Skip (length ys + 1) ∷ (ys ++ step.Skip 0 ∷ rest) ≡ all ++ rest = sym (simp append_assoc) in
        (λ i. run E (many i) (flat i) s) ∙ passed all rest s

    by_zero : (z : Bool) → run E (cond z (length xs + 1) 0) (xs ++ step.Skip (length ys + 1) ∷ (ys ++ step.Skip 0 ∷ rest)) stack ≡ run E 0 rest (arg.One (cond z (value_of_argument E c) (value_of_argument E b)) ∷ stack)
    by_zero true = second
    by_zero false = first

    by_number : (r : Result ℤ CalcErr) → let next = tested (length xs + 1) (length xs + 1 + (length ys + 1)) r stack in
        run E next.0 (xs ++ step.Skip (length ys + 1) ∷ (ys ++ step.Skip 0 ∷ rest)) next.1 ≡ run E 0 rest (arg.One (answer (and_then r (λ n. Ok (cond (is_zero n) (value_of_argument E c) (value_of_argument E b))))) ∷ stack)
    by_number (Ok n) = by_zero (is_zero n)
    by_number (Err e) = neither (arg.One (value.Err e) ∷ stack)

    choice_runs : run E 0 (choice_code test xs ys ++ rest) stack ≡ run E 0 rest (arg.One (answer (if_of E (a ∷ b ∷ c ∷ []))) ∷ stack)
    choice_runs =
        let tests = step.Test (length xs + 1) (length xs + 1 + (length ys + 1)) in
        let flat : choice_code test xs ys ++ rest ≡ test ++ tests ∷ (xs ++ step.Skip (length ys + 1) ∷ (ys ++ step.Skip 0 ∷ rest)) = simp append_assoc in
        ap (λ (l : List Step). run E 0 l stack) flat ∙ (runs_test (tests ∷ (xs ++ step.Skip (length ys + 1) ∷ (ys ++ step.Skip 0 ∷ rest))) stack ∙ by_number (number E a))

  is_the_if : (f : Fun) → is_if f ≡ true → f ≡ fun.If
  is_the_if fun.Sum e = absurd (cc)
  is_the_if fun.Count e = absurd (cc)
  is_the_if fun.Counta e = absurd (cc)
  is_the_if fun.Min e = absurd (cc)
  is_the_if fun.Max e = absurd (cc)
  is_the_if fun.And e = absurd (cc)
  is_the_if fun.Or e = absurd (cc)
  is_the_if fun.Abs e = absurd (cc)
  is_the_if fun.Sign e = absurd (cc)
  is_the_if fun.Mod e = absurd (cc)
  is_the_if fun.Quotient e = absurd (cc)
  is_the_if fun.If e = refl
  is_the_if fun.Not e = absurd (cc)
  is_the_if fun.Iferror e = absurd (cc)
  is_the_if fun.Iserror e = absurd (cc)
  is_the_if fun.Isna e = absurd (cc)
  is_the_if fun.Isblank e = absurd (cc)
  is_the_if fun.Isnumber e = absurd (cc)
  is_the_if fun.Istext e = absurd (cc)
  is_the_if fun.Na e = absurd (cc)
  is_the_if fun.True e = absurd (cc)
  is_the_if fun.False e = absurd (cc)
  is_the_if fun.Len e = absurd (cc)
  is_the_if fun.Left e = absurd (cc)
  is_the_if fun.Right e = absurd (cc)
  is_the_if fun.Mid e = absurd (cc)
  is_the_if fun.Concatenate e = absurd (cc)
  is_the_if fun.Exact e = absurd (cc)
  is_the_if fun.Choose e = absurd (cc)
  is_the_if fun.Index e = absurd (cc)
  is_the_if fun.Match e = absurd (cc)
  is_the_if fun.Vlookup e = absurd (cc)
  is_the_if fun.Countif e = absurd (cc)
  is_the_if fun.Sumif e = absurd (cc)
  is_the_if fun.Sumproduct e = absurd (cc)
  is_the_if fun.Rows e = absurd (cc)
  is_the_if fun.Columns e = absurd (cc)
  is_the_if (fun.Unknown name) e = absurd (cc)

  -- the code of each of some trees leaves what it is as an argument
  abbrev EachLeaves : Trees Spot Span → Type 0
  EachLeaves none = Unit {0}
  EachLeaves (more t ts) = Leaves (code_of t) (argument t (meaning E t)) × EachLeaves ts

  all_leave : (ts : Trees Spot Span) → EachLeaves ts → (rest : List Step) (stack : List Arg) → run E 0 (flat_map (λ c. c) (codes_of ts) ++ rest) stack ≡ run E 0 rest (reverse (arguments E ts) ++ stack)
  all_leave none each rest stack = refl
  all_leave (more t ts) each rest stack =
      let a = argument t (meaning E t) in
      let onto : reverse (arguments E ts) ++ (a ∷ stack) ≡ reverse (a ∷ arguments E ts) ++ stack =
      sym (ap (λ (l : List Arg). l ++ stack) (reverse-append (a ∷ []) (arguments E ts)) ∙ append_assoc (reverse (arguments E ts)) (a ∷ []) stack) in
      ap (λ (l : List Step). run E 0 l stack) (append_assoc (code_of t) (flat_map (λ c. c) (codes_of ts)) rest)
      ∙ (each.0 (flat_map (λ c. c) (codes_of ts) ++ rest) stack
      ∙ (all_leave ts each.1 rest (a ∷ stack) ∙ ap (λ (s : List Arg). run E 0 rest s) onto))

  if_leaves : (ts : Trees Spot Span) → EachLeaves ts → (2 ≤ length (codes_of ts)) × (length (codes_of ts) ≤ 3) → Leaves (call_code fun.If (codes_of ts)) (arg.One (answer (if_of E (arguments E ts))))
  if_leaves none each count rest stack = absurd (omega (arith, count.0))
  if_leaves (more t none) each count rest stack = absurd (omega (arith, count.0))
  if_leaves (more t (more u none)) each count rest stack =
      choice_runs (code_of t) (code_of u) (step.Num (pos 0) ∷ []) (argument t (meaning E t)) (argument u (meaning E u)) (arg.One (value.Num (pos 0))) each.0 each.1.0 (λ rest stack. refl) rest stack
  if_leaves (more t (more u (more v none))) each count rest stack =
      choice_runs (code_of t) (code_of u) (code_of v) (argument t (meaning E t)) (argument u (meaning E u)) (argument v (meaning E v)) each.0 each.1.0 each.1.1.0 rest stack
  if_leaves (more t (more u (more v (more w ts)))) each count rest stack = absurd (omega (arith, count.1))

  call_leaves : (f : Fun) (ts : Trees Spot Span) → node_counts ts < 2 ^ 24 → EachLeaves ts → (b : Bool) → is_choice f (length (codes_of ts)) ≡ b →
      Leaves (call_code f (codes_of ts)) (arg.One (answer (call_of f E (arguments E ts))))
  call_leaves f ts small each false e rest stack =
      let codes = flat_map (λ c. c) (codes_of ts) in
      let plain : call_code f (codes_of ts) ≡ plain_call f (codes_of ts) = ap (λ (b : Bool). cond b (if_code (codes_of ts)) (plain_call f (codes_of ts))) e in
      ap (λ (l : List Step). run E 0 (l ++ rest) stack) plain
      ∙ (ap (λ (l : List Step). run E 0 l stack) (append_assoc codes (step.Call f (length (codes_of ts)) ∷ []) rest)
      ∙ (all_leave ts each (step.Call f (length (codes_of ts)) ∷ rest) stack
      ∙ ap (λ (o : Option (ℕ × List Arg)). option_and_then (λ next. run E next.0 rest next.1) o)
      (call_moves f (arguments E ts) stack (length (codes_of ts)) (sym (argument_count ts)) (omega (arith, small, as_many_nodes ts)))))
  call_leaves f ts small each true e rest stack =
      subst (λ (g : Fun). Leaves (call_code g (codes_of ts)) (arg.One (answer (call_of g E (arguments E ts)))))
      (sym (is_the_if f (choice_is_if f (length (codes_of ts)) e))) (if_leaves ts each (choice_counts f (length (codes_of ts)) e)) rest stack

  mutual
    pub code_runs : (t : Tree Spot Span) → node_count t < 2 ^ 24 → Leaves (code_of t) (argument t (meaning E t))
    code_runs (num n) small rest stack = refl
    code_runs (text t) small rest stack = refl
    code_runs (fault e) small rest stack = refl
    code_runs (cell s) small rest stack = refl
    code_runs (range s) small rest stack = refl
    code_runs (pre op t) small rest stack =
        ap (λ (l : List Step). run E 0 l stack) (append_assoc (code_of t) (step.Pre op ∷ []) rest)
        ∙ (code_runs t (omega (arith, small)) (step.Pre op ∷ rest) stack
        ∙ ap (λ (v : Value). run E 0 rest (arg.One (answer (prefixed op v)) ∷ stack)) (argument_value t))
    code_runs (bin op s t) small rest stack =
        let left = argument s (meaning E s) in
        ap (λ (l : List Step). run E 0 l stack) (append_assoc (code_of s) (code_of t ++ step.Bin op ∷ []) rest)
        ∙ (code_runs s (omega (arith, small)) ((code_of t ++ step.Bin op ∷ []) ++ rest) stack
        ∙ (ap (λ (l : List Step). run E 0 l (left ∷ stack)) (append_assoc (code_of t) (step.Bin op ∷ []) rest)
        ∙ (code_runs t (omega (arith, small)) (step.Bin op ∷ rest) (left ∷ stack)
        ∙ (λ i. run E 0 rest (arg.One (answer (combined op (argument_value s i) (argument_value t i))) ∷ stack)))))
    code_runs (call f ts) small rest stack = call_leaves f ts (omega (arith, small)) (each_runs ts (omega (arith, small))) (is_choice f (length (codes_of ts))) refl rest stack

    each_runs : (ts : Trees Spot Span) → node_counts ts < 2 ^ 24 → EachLeaves ts
    each_runs none small = tt
    each_runs (more t ts) small = (code_runs t (omega (arith, small)), each_runs ts (omega (arith, small)))

  -- the code of a formula leaves what it is as an argument, alone
  pub formula_runs : (t : Tree Spot Span) → node_count t < 2 ^ 24 → run E 0 (code_of t) [] ≡ Some (argument t (meaning E t) ∷ [])
  formula_runs t small = ap (λ (l : List Step). run E 0 l []) (sym (append-nil (code_of t))) ∙ code_runs t small [] []

  -- one step leads to what is left behind it
  pub one_step : (left behind : List Step) (x : Step) (stack next : List Arg) (k : ℕ) → left ≡ x ∷ behind → after_step E x stack ≡ Some (k, next) → run E 0 left stack ≡ run E 0 (drop k behind) next
  one_step left behind x stack next k e m =
      ap (λ (l : List Step). run E 0 l stack) e ∙ (ap (λ (o : Option (ℕ × List Arg)). option_and_then (λ next. run E next.0 behind next.1) o) m ∙ dropped k behind next)

  -- what the machine takes from the stack in the end is what the tree means
  pub meaning_left : (t : Tree Spot Span) (small : node_count t < 2 ^ 24) (steps : List Step) (stack rest : List Arg) (a : Arg) (v : Value) →
      steps ≡ code_of t → run E 0 steps [] ≡ Some stack → stack ≡ a ∷ rest → v ≡ value_of_argument E a → v ≡ meaning E t
  meaning_left t small steps stack rest a v e r s h =
      let left : Some (argument t (meaning E t) ∷ []) ≡ Some (a ∷ rest) = sym (formula_runs t small) ∙ (ap (λ (l : List Step). run E 0 l []) (sym e) ∙ (r ∙ ap Some s)) in
      let same : a ≡ argument t (meaning E t) = cc in
      h ∙ (ap (value_of_argument E) same ∙ argument_value t)
