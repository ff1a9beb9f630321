use Rattle.std.proofs.Common.{◌≡◌, List, [], ◌∷◌, Option, Some, refl, sym, ap, subst, ◌∙◌}
use Rattle.std.specs.Prelude.{IsSome}
use Rattle.sheet_value.specs.declared.value.Value.{Value}
use Rattle.sheet_value.specs.Values.{IsWithinLimit}
use Rattle.formula_code.specs.declared.step.Step.{Step}
use Rattle.funcs.specs.declared.arg.Arg.{Arg}
use Rattle.cell_eval.specs.Meaning.{argument, meaning, or_zero}
use Rattle.cell_eval.specs.Machine.{run}
use Rattle.cell_eval.proofs.Limits.{formula-within}
use Rattle.cell_eval.proofs.Runs.{formula_runs, meaning_left}
use Rattle.cell_eval.proofs.evaluation.eval.Goals as goal

pub run-requires : goal.run-requires
run-requires g c =
    let E = g.L.Look.environment c.args.look.now in
    let leaves = ap (λ (l : List Step). run E 0 l []) (c.as_slice.ensures ∙ c.steps.ensures.code) ∙ formula_runs E c.args.code.now c.steps.ensures.formula.small in
    subst (λ (o : Option (List Arg)). IsSome o) (sym leaves) refl

pub pop_value-requires : goal.pop_value-requires
pop_value-requires g c =
    let E = g.L.Look.environment c.args.look.now in
    let leaves = ap (λ (l : List Step). run E 0 l []) (c.as_slice.ensures ∙ c.steps.ensures.code) ∙ formula_runs E c.args.code.now c.steps.ensures.formula.small in
    let ran = c.in_ok-stack.ensures in
    λ none. absurd (let clash : Some (argument c.args.code.now (meaning E c.args.code.now) ∷ []) ≡ Some [] = sym leaves ∙ (ran ∙ ap Some none) in cc)

pub returns-clause-value : goal.returns-clause-value
returns-clause-value g c =
    let p = c.in_ok-v.ensures in
    let left = meaning_left (g.L.Look.environment c.args.look.now) c.args.code.now c.steps.ensures.formula.small c.as_slice.result.now c.in_ok-stack.stack c.pop_value.new.stack p.0 c.in_ok-v.v
    (c.as_slice.ensures ∙ c.steps.ensures.code) c.in_ok-stack.ensures p.1 p.2 in
    c.or_zero.ensures ∙ ap or_zero left

pub returns-clause-limit : goal.returns-clause-limit
returns-clause-limit g c = λ short. subst (λ (v : Value). IsWithinLimit v) (sym (returns-clause-value g c)) (formula-within (g.L.Look.environment c.args.look.now) short c.args.code.now)
