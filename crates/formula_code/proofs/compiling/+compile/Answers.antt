use Rattle.std.proofs.Common.{rules, pos, ◌≡◌, ◌++◌, ◌+◌, ◌-◌, ◌^◌, ◌<◌, ◌≤◌, ℕ, List, ◌∷◌, [], All, Some, None, length, ap, sym, subst, ◌∙◌, arith, append_assoc}
use Rattle.std.specs.Prelude.{slice_get}
use Rattle.formula_tree.specs.declared.expression.Expr.{Expr, the_lemmas}
use Rattle.std.proofs.lemmas.Option.{slice_get-get_or, slice_get_past}
use Rattle.formula_tree.specs.Erase.{tree_of}
use Rattle.formula_tree.specs.Measures.{node_count}
use Rattle.formula_code.specs.declared.step.Step.{Step}
use Rattle.formula_code.specs.declared.step.Step.TheVariants.{Num}
use Rattle.formula_code.specs.Code.{expr_code, is_choice}
use Rattle.formula_code.proofs.Calls.{code_of_choice, code_of_plain, choice_counts, few_arguments, small_arguments, code_length}
use Rattle.formula_code.proofs.Choices.{choice_written, branch_lengths, otherwise_length, choice_of_arguments}
use Rattle.formula_code.proofs.compiling.+compile.Goals.{push_choice-in-Some+in_ok-push_tree-in-Some, push_choice-in-None+in_ok-push-in-None}
use Rattle.formula_code.proofs.compiling.+compile.Goals as goal

-- the ends of the branches stand near each other
near : (t : ℕ) (c : goal.push_choice-In_ok-push-3 t) → (c.len-first_end.result - c.len-tested.result ≤ 2 ^ 26) × (c.len-second_end.result - c.len-first_end.result ≤ 2 ^ 26)
near t c =
    let first = code_length (tree_of c.index-args-1.result) in
    let small : node_count (tree_of c.index-args-1.result) < 2 ^ 24 =
    subst (λ (e : Expr). node_count (tree_of e) < 2 ^ 24) (sym c.index-args-1.is) (c.requires.small 1 c.index-args-1.result (omega (arith, c.requires.many))) in
    let otherwise = otherwise_length c.args.args.now c.requires.small in
    elim c.match-get.branch [
      | push_choice-in-Some+in_ok-push_tree-in-Some w ↦
          (let l = rw w.in-Some.is at c.get.ensures.lookup in
          let found : slice_get c.args.args.now 2 ≡ Some w.in-Some.y.now = slice_get-get_or c.args.args.now 2 w.in-Some.y.now l.3.0 ∙ ap Some (sym l.1) in
          let second = rw found at otherwise in
          let lengths = branch_lengths c.args.steps.now.items _ _ (expr_code w.in-Some.y.now) _ _ _ _ _ _ _ _ _ _ c.in_ok-push_tree.ensures (c.len-tested.ensures ∙ c.push_tree.new.steps.ok.0) c.in_ok-push.ensures c.in_ok-push_tree-2.ensures (c.len-first_end.ensures ∙ c.push_tree-2.new.steps.ok.0) c.in_ok-push-2.ensures
          (rw w.steps-is w.in_ok-push_tree-in-Some.ensures) (c.len-second_end.ensures ∙ c.match-get.steps.ok.0) in
          (omega (arith, lengths.0), omega (arith, lengths.1)))
      | push_choice-in-None+in_ok-push-in-None w ↦
          (let lengths = branch_lengths c.args.steps.now.items _ _ (Num (pos 0) ∷ []) _ _ _ _ _ _ _ _ _ _ c.in_ok-push_tree.ensures (c.len-tested.ensures ∙ c.push_tree.new.steps.ok.0) c.in_ok-push.ensures c.in_ok-push_tree-2.ensures (c.len-first_end.ensures ∙ c.push_tree-2.new.steps.ok.0) c.in_ok-push-2.ensures
          (rw w.steps-is w.in_ok-push-in-None.ensures) (c.len-second_end.ensures ∙ c.match-get.steps.ok.0) in
          (omega (arith, lengths.0), omega (arith, lengths.1)))
    ]

pub push_choice-overflow_cast-first : goal.push_choice-overflow_cast-first
push_choice-overflow_cast-first t c =
    let few : c.len-first_end.result - c.len-tested.result < 2 ^ 32 = omega (arith, (near t c).0) in
    search (rules, few)

pub push_choice-overflow_cast-second : goal.push_choice-overflow_cast-second
push_choice-overflow_cast-second t c =
    let few : c.len-second_end.result - c.len-first_end.result < 2 ^ 32 = omega (arith, (near t c).1) in
    search (rules, few)

pub push_choice-overflow_add-first : goal.push_choice-overflow_add-first
push_choice-overflow_add-first t c =
    let few : c.len-first_end.result - c.len-tested.result + (c.len-second_end.result - c.len-first_end.result) < 2 ^ 32 = omega (arith, (near t c).0, (near t c).1) in
    search (rules, few)

pub push_choice-returns : goal.push_choice-returns
push_choice-returns t c =
    let base = c.args.steps.now.items in
    let given = choice_of_arguments c.args.args.now c.index-args-0.result c.index-args-1.result c.requires.many c.index-args-0.is c.index-args-1.is in
    elim c.match-get.branch [
      | push_choice-in-Some+in_ok-push_tree-in-Some w ↦
          (let l = rw w.in-Some.is at c.get.ensures.lookup in let found : slice_get c.args.args.now 2 ≡ Some w.in-Some.y.now = slice_get-get_or c.args.args.now 2 w.in-Some.y.now l.3.0 ∙ ap Some (sym l.1) in
          choice_written base _ _ (expr_code w.in-Some.y.now) _ _ _ _ _ _ _ _ _ _ _ c.in_ok-push_tree.ensures (c.len-tested.ensures ∙ c.push_tree.new.steps.ok.0) c.in_ok-push.ensures c.in_ok-push_tree-2.ensures (c.len-first_end.ensures ∙ c.push_tree-2.new.steps.ok.0) c.in_ok-push-2.ensures (rw w.steps-is w.in_ok-push_tree-in-Some.ensures) (c.len-second_end.ensures ∙ c.match-get.steps.ok.0) c.in_ok-push-3.ensures
          ∙ ap (λ (l : List Step). base ++ l) (rw found at given))
      | push_choice-in-None+in_ok-push-in-None w ↦
          (let l = rw w.in-None.is at c.get.ensures.lookup in let none : slice_get c.args.args.now 2 ≡ None = slice_get_past c.args.args.now 2 l.3 in
          choice_written base _ _ (Num (pos 0) ∷ []) _ _ _ _ _ _ _ _ _ _ _ c.in_ok-push_tree.ensures (c.len-tested.ensures ∙ c.push_tree.new.steps.ok.0) c.in_ok-push.ensures c.in_ok-push_tree-2.ensures (c.len-first_end.ensures ∙ c.push_tree-2.new.steps.ok.0) c.in_ok-push-2.ensures (rw w.steps-is w.in_ok-push-in-None.ensures) (c.len-second_end.ensures ∙ c.match-get.steps.ok.0) c.in_ok-push-3.ensures
          ∙ ap (λ (l : List Step). base ++ l) (rw none at given))
    ]

pub push_tree-push_choice-requires : goal.push_tree-push_choice-requires
push_tree-push_choice-requires t c =
    let counts = choice_counts c.in-Call.fun (length c.as_slice-args.result.now) (sym c.is_choice.ensures ∙ c.if-is_choice.true) in
    let small = small_arguments c.in-Call.fun c.in-Call.args (2 ^ 24) (rw c.in-Call.is at c.requires) in
    (search (rules, the_lemmas), (counts.0, (counts.1, subst (λ (es : List Expr). All (λ (e : Expr). node_count (tree_of e) < 2 ^ 24) es) (sym c.as_slice-args.ensures) small)))

pub push_tree-returns-then-is_choice : goal.push_tree-returns-then-is_choice
push_tree-returns-then-is_choice t c =
    let code = code_of_choice c.in-Call.fun c.in-Call.args (ap (λ (es : List Expr). is_choice c.in-Call.fun (length es)) (sym c.as_slice-args.ensures) ∙ (sym c.is_choice.ensures ∙ c.if-is_choice.true)) in
    rw (c.in-Call.is, code, ← c.as_slice-args.ensures) c.push_choice.ensures

pub push_tree-push_all-requires : goal.push_tree-push_all-requires
push_tree-push_all-requires t c =
    let small = small_arguments c.in-Call.fun c.in-Call.args (2 ^ 24) (rw c.in-Call.is at c.requires) in
    (search (rules, the_lemmas), subst (λ (es : List Expr). All (λ (e : Expr). node_count (tree_of e) < 2 ^ 24) es) (sym c.as_slice-args.ensures) small)

pub push_tree-overflow_cast-args : goal.push_tree-overflow_cast-args
push_tree-overflow_cast-args t c =
    let few = few_arguments c.in-Call.fun c.in-Call.args (2 ^ 24) (rw c.in-Call.is at c.requires) in
    let here : length c.as_slice-args.result.now < 2 ^ 24 = subst (λ (es : List Expr). length es < 2 ^ 24) (sym c.as_slice-args.ensures) few in
    search (rules, here)

pub push_tree-returns-in_ok-fun-in-Call : goal.push_tree-returns-in_ok-fun-in-Call
push_tree-returns-in_ok-fun-in-Call t c =
    let code = code_of_plain c.in-Call.fun c.in-Call.args (ap (λ (es : List Expr). is_choice c.in-Call.fun (length es)) (sym c.as_slice-args.ensures) ∙ (sym c.is_choice.ensures ∙ c.if-is_choice.false)) in
    rw (c.in-Call.is, code, ← c.as_slice-args.ensures) (rw (c.in_ok-push_all-in-Call.ensures, append_assoc, c.in_ok-fun-in-Call.ensures) at c.push-in-Call.ensures)
