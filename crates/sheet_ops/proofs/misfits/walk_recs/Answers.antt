use Rattle.std.proofs.Common.{ap, sym, ◌∙◌, List, Bool, arith}
use Rattle.std.proofs.lemmas.List.{length-set}
use Rattle.std.proofs.lemmas.Result.{err_from_is_err_and}
use Rattle.sheet_ops.specs.Misfits.{walked, rec_tests}
use Rattle.sheet_ops.proofs.FirstMisfit.{beside_more_at, beside_out_at, rec_test, recs_so_far, same_at}
use Rattle.sheet_ops.proofs.misfits.walk_recs.Goals as goal

pub returns-in_err-at : goal.returns-in_err-at
returns-in_err-at c =
    let p = err_from_is_err_and c.from_residual.result c.from_residual.ensures.1 in
    rw (p.1, p.2) (beside_out_at (rec_tests c.args.size c.args.slots) c.args.at c.loop-i.at c.in_err-at.field-0.0 c.args.recs.now c.loop-i.i _ c.loop-i-test.true c.loop-i.invariant.before
    (c.in_err-at.ensures.walk ∙ ap (λ (ts : List Bool). walked c.loop-i.at ts) (sym (rec_test c.args.size c.args.slots c.args.recs.now c.loop-i.i _ c.loop-i.seen c.loop-i-test.true c.loop-i.invariant.marked))))

pub loop-i-preserved : goal.loop-i-preserved
loop-i-preserved c =
    let room = c.loop-i.invariant.room in
    let met = c.in_ok-at.ensures.met in
    let most = c.requires in
    record {
      before = beside_more_at (rec_tests c.args.size c.args.slots) c.args.at c.loop-i.at c.in_ok-at.at c.args.recs.now c.loop-i.i _ c.loop-i-test.true c.loop-i.invariant.before
          (c.in_ok-at.ensures.walk ∙ ap (λ (ts : List Bool). walked c.loop-i.at ts) (sym (rec_test c.args.size c.args.slots c.args.recs.now c.loop-i.i _ c.loop-i.seen c.loop-i-test.true c.loop-i.invariant.marked)));
      room = simp length-set room;
      marked = recs_so_far c.args.size c.args.slots c.args.recs.now c.loop-i.i _ c.loop-i.seen c.loop-i-test.true c.loop-i.invariant.marked (same_at c.args.recs.now c.loop-i.i _ _ c.loop-i-test.true) (omega (arith, room, met, most));
    }
