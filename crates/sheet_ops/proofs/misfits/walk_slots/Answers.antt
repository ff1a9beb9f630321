use Rattle.std.proofs.Common.{ap, sym, ◌∙◌, List, Bool}
use Rattle.std.proofs.lemmas.Result.{err_from_is_err_and}
use Rattle.sheet_ops.specs.Misfits.{walked, slot_tests}
use Rattle.sheet_ops.proofs.FirstMisfit.{beside_more_at, beside_out_at, slot_test, slots_so_far, same_at}
use Rattle.sheet_ops.proofs.misfits.walk_slots.Goals as goal

pub returns-in_err-at : goal.returns-in_err-at
returns-in_err-at c =
    let p = err_from_is_err_and c.from_residual.result c.from_residual.ensures.1 in
    rw (p.1, p.2) (beside_out_at (slot_tests c.args.size) 0 c.loop-i.at c.in_err-at.field-0.0 c.args.slots.now c.loop-i.i _ c.loop-i-test.true c.loop-i.invariant.before
    (c.in_err-at.ensures.walk ∙ ap (λ (ts : List Bool). walked c.loop-i.at ts) (sym (slot_test c.args.size c.args.slots.now c.loop-i.i _ c.loop-i.low c.loop-i-test.true c.loop-i.invariant.least))))

pub loop-i-preserved : goal.loop-i-preserved
loop-i-preserved c = record {
  before = beside_more_at (slot_tests c.args.size) 0 c.loop-i.at c.in_ok-at.at c.args.slots.now c.loop-i.i _ c.loop-i-test.true c.loop-i.invariant.before
      (c.in_ok-at.ensures.walk ∙ ap (λ (ts : List Bool). walked c.loop-i.at ts) (sym (slot_test c.args.size c.args.slots.now c.loop-i.i _ c.loop-i.low c.loop-i-test.true c.loop-i.invariant.least)));
  least = slots_so_far c.args.size c.args.slots.now c.loop-i.i _ c.loop-i.low c.loop-i-test.true c.loop-i.invariant.least (same_at c.args.slots.now c.loop-i.i _ _ c.loop-i-test.true) c.in_ok-at.ensures.met.1;
}
