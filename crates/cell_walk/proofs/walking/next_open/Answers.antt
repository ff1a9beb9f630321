use Rattle.std.proofs.Common.{◌-◌, arith}
use Rattle.cell_walk.specs.Walks.{hue}
use Rattle.cell_walk.proofs.Skips.{run_in, behind_in, run_passed, run_less}
use Rattle.cell_walk.proofs.walking.next_open.Goals as goal

pub first_open-open-requires-clause-within : goal.first_open-open-requires-clause-within
first_open-open-requires-clause-within g c =
    let e = c.in-Some.ensures in
    let some = e.0 in
    let last = c.requires.within (c.in-Some.run'.end - 1) (c.loop-run.invariant.within (c.in-Some.run'.end - 1) (run_in _ _ c.in-Some.run' e.1 (c.in-Some.run'.end - 1) (omega (arith, some)) (omega (arith, some)))) in
    omega (arith, last)

pub returns-then-open-run-clause-opens : goal.returns-then-open-run-clause-opens
returns-then-open-run-clause-opens g c =
    let here = run_in _ _ c.in-Some.run' c.in-Some.ensures.1 c.first_open-open.result c.first_open-open.ensures.from c.if-open-run.true in (
      c.loop-run.invariant.within c.first_open-open.result here,
      here,
      c.first_open-open.ensures.open c.if-open-run.true,
      c.loop-run.invariant.passed,
      c.loop-run.invariant.within,
    )

pub loop-run-smaller : goal.loop-run-smaller
loop-run-smaller g c = run_less _ _ c.in-Some.run' c.in-Some.ensures.1 c.in-Some.ensures.0

pub loop-run-preserved : goal.loop-run-preserved
loop-run-preserved g c = record {
  passed = run_passed _ _ c.in-Some.run' c.in-Some.ensures.1 (hue c.args.colours.now) _ (λ d h k. c.first_open-open.ensures.passed d h (let past = c.if-open-run.false in omega (arith, k, past))) c.loop-run.invariant.passed;
  within = λ x i. c.loop-run.invariant.within x (behind_in _ _ c.in-Some.run' c.in-Some.ensures.1 x i);
  skips = c.first_open-open.ensures.skips;
}
