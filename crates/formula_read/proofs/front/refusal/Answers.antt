use Rattle.std.proofs.Common.{◌≡◌, ℕ, refl, sym, ◌∙◌, subst, length, rules}
use Rattle.formula_read.specs.Readings.{IsLongestFormulaFront}
use Rattle.formula_read.proofs.Stops.{reaches_more, stopped_outside, stopped_place, end_formula, end_outside, end_place}
use Rattle.formula_read.proofs.front.refusal.Goals as goal

pub loop-i-preserved : goal.loop-i-preserved
loop-i-preserved c = reaches_more c.args.text.now c.loop-i.i c.loop-i.place c.loop-i.token c.loop-i.invariant c.loop-i-test.true c.in-Some.next c.in-Some.begun
    (sym c.in_ok-next.ensures ∙ c.in-Some.is)

pub returns-in-None-clause-outside : goal.returns-in-None-clause-outside
returns-in-None-clause-outside c p e = stopped_outside c.args.text.now c.loop-i.i c.loop-i.place c.loop-i.token c.loop-i.invariant c.loop-i-test.true
    (sym c.in_ok-next.ensures ∙ c.in-None.is)

pub returns-in-None-clause-place : goal.returns-in-None-clause-place
returns-in-None-clause-place c p e =
    let same : c.loop-i.i ≡ p = cc in
    subst (λ (n : ℕ). IsLongestFormulaFront c.args.text.now n) same
    (stopped_place c.args.text.now c.loop-i.i c.loop-i.place c.loop-i.token c.loop-i.invariant c.loop-i-test.true (sym c.in_ok-next.ensures ∙ c.in-None.is))

pub returns-then-may_end-clause-formula : goal.returns-then-may_end-clause-formula
returns-then-may_end-clause-formula c _ =
    end_formula c.args.text.now c.loop-i.i c.loop-i.place c.loop-i.token c.loop-i.invariant c.loop-i-test.false (c.if-may_end.ensures.0 refl)

pub returns-else-may_end-clause-outside : goal.returns-else-may_end-clause-outside
returns-else-may_end-clause-outside c p _ =
    end_outside c.args.text.now c.loop-i.i c.loop-i.place c.loop-i.token c.loop-i.invariant c.loop-i-test.false (λ e. let ends = c.if-may_end.ensures.1 e in absurd (search rules))

pub returns-else-may_end-clause-place : goal.returns-else-may_end-clause-place
returns-else-may_end-clause-place c p e =
    let same : length c.args.text.now ≡ p = cc in
    subst (λ (n : ℕ). IsLongestFormulaFront c.args.text.now n) same
    (end_place c.args.text.now c.loop-i.i c.loop-i.place c.loop-i.token c.loop-i.invariant c.loop-i-test.false)
