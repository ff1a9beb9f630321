use Rattle.std.proofs.Common.{◌≡◌, ℕ, ◌+◌, Some, None, ap, sym, ◌∙◌, subst, arith, List, drop}
use Rattle.formula_tree.specs.Lexing.{space_count}
use Rattle.formula_read.specs.declared.kinds.Token.{Token}
use Rattle.formula_read.specs.declared.partial.Partial.TheVariants.{Fresh}
use Rattle.formula_read.specs.Longest.{longest, fronts}
use Rattle.formula_read.proofs.Cuts.{Fails}
use Rattle.formula_read.proofs.Walk.{CutsOn, FailsOn, cuts_first, fails_first, cuts_more, fails_more, fails_here, failed_outside, failed_place, cuts_end}
use Rattle.formula_read.proofs.lexer.tokens.Goals as goal
use Rattle.formula_read.proofs.lexer.tokens.Goals.{After-drop-tokens-inside}

pub loop-at-init : goal.loop-at-init
loop-at-init c = record {
  within = omega arith;
  near = omega arith;
  cuts = subst (λ (ts : List Token). CutsOn c.args.text.now 0 ts) (sym c.new-tokens.ensures) (cuts_first c.args.text.now);
  fails = fails_first c.args.text.now;
}

pub loop-at-preserved : goal.loop-at-preserved
loop-at-preserved c =
    let text = c.args.text.now in
    let at = c.loop-at.at in
    let n = c.in-Some.length in
    let k = c.in-Some.kind in
    let here : longest (Some Fresh) (drop at text) ≡ Some (n, k) = ap (longest (Some Fresh)) (sym c.split_at.ensures.back) ∙ (sym c.scan-scanned.ensures.found ∙ c.in-Some.is) in
    let reach : c.scan-scanned.result.reach + 1 ≡ fronts (Some Fresh) (drop at text) = c.scan-scanned.ensures.reach ∙ ap (fronts (Some Fresh)) c.split_at.ensures.back in
    let spaces : space_count (drop n (drop at text)) ≡ c.spaces.result =
    sym (c.spaces.ensures.count ∙ ap space_count (c.split_at-in-loop-at.ensures.back ∙ ap (drop n) c.split_at.ensures.back)) in
    let cuts = cuts_more text at n k here c.loop-at.tokens c.loop-at.invariant.cuts in
    let fails = fails_more text at n k here c.loop-at.far c.scan-scanned.result.reach reach c.loop-at.invariant.fails in
    record {
      within = omega arith;
      near = omega arith;
      cuts = subst (λ (m : ℕ). CutsOn text (at + n + m) c.push.new.self) spaces (subst (λ (ts : List Token). CutsOn text (at + n + space_count (drop n (drop at text))) ts) (sym c.in_ok-push.ensures.ok) cuts);
      fails = subst (λ (m : ℕ). FailsOn text (at + n + m) c.max-far.result) spaces (subst (λ (m : ℕ). FailsOn text (at + n + space_count (drop n (drop at text))) m) (sym c.max-far.ensures) fails);
    }

failed : (c : After-drop-tokens-inside) → Fails c.args.text.now c.max-far.result
failed c =
    let text = c.args.text.now in
    let none : longest (Some Fresh) (drop c.loop-at.at text) ≡ None = ap (longest (Some Fresh)) (sym c.split_at.ensures.back) ∙ (sym c.scan-scanned.ensures.found ∙ c.in_default.is) in
    let reach : c.scan-scanned.result.reach + 1 ≡ fronts (Some Fresh) (drop c.loop-at.at text) = c.scan-scanned.ensures.reach ∙ ap (fronts (Some Fresh)) c.split_at.ensures.back in
    subst (λ (n : ℕ). Fails text n) (sym c.max-far.ensures)
    (fails_here text c.loop-at.at c.loop-at.far c.scan-scanned.result.reach c.loop-at-test.true none reach c.loop-at.invariant.fails)

pub returns-in_default-clause-outside : goal.returns-in_default-clause-outside
returns-in_default-clause-outside c p e = failed_outside c.args.text.now c.max-far.result (failed c)

pub returns-in_default-clause-place : goal.returns-in_default-clause-place
returns-in_default-clause-place c p e =
    let place : c.max-far.result ≡ p = cc in
    failed_place c.args.text.now p (subst (λ (n : ℕ). Fails c.args.text.now n) place (failed c))

pub returns-clause-tokens : goal.returns-clause-tokens
returns-clause-tokens c = cuts_end c.args.text.now c.loop-at.at c.loop-at.tokens c.loop-at-test.false c.loop-at.invariant.cuts
