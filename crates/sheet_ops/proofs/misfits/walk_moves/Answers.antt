use Rattle.std.proofs.Common.{ℕ, [], ◌≤◌, ap, ◌∙◌, List, arith}
use Rattle.std.proofs.lemmas.List.{take_all}
use Rattle.std.proofs.lemmas.Result.{err_from_is_err_and}
use Rattle.sheet_ops.specs.Misfits.{walked, beside_earlier, move_tests}
use Rattle.sheet_ops.proofs.FirstMisfit.{beside_more, beside_out, move_at, move_rank, move_none}
use Rattle.sheet_ops.proofs.misfits.walk_moves.Goals as goal

pub returns-in_err-at-clause-walk : goal.returns-in_err-at-clause-walk
returns-in_err-at-clause-walk c =
    let p = err_from_is_err_and c.from_residual.result c.from_residual.ensures.1 in
    let here = move_at c.args.perm.now c.loop-from.i (c.in-Some.from, c.in-Some.to) c.in-Some.ensures.value in
    rw (p.1, p.2) (beside_out (move_tests c.args.size) 0 c.loop-from.at c.in_err-at.field-0.0 c.args.perm.now c.loop-from.i (c.in-Some.from, c.in-Some.to) here.0 here.1 c.loop-from.invariant.before c.in_err-at.ensures.walk)

pub overflow_add-i : goal.overflow_add-i
overflow_add-i c =
    let here = move_at c.args.perm.now c.loop-from.i (c.in-Some.from, c.in-Some.to) c.in-Some.ensures.value in
    let rank = move_rank c.args.perm.now c.in-Some.ensures.bijective.ascending c.loop-from.i (c.in-Some.from, c.in-Some.to) here.0 in
    let at : c.loop-from.i ≤ c.in-Some.from = rw (← here.1) at rank in
    omega (arith, at, c.in_ok-at.ensures.met, c.requires)

pub loop-from-smaller : goal.loop-from-smaller
loop-from-smaller c =
    let here = move_at c.args.perm.now c.loop-from.i (c.in-Some.from, c.in-Some.to) c.in-Some.ensures.value in
    let within = here.0 in
    omega (arith, within)

pub loop-from-preserved : goal.loop-from-preserved
loop-from-preserved c =
    let here = move_at c.args.perm.now c.loop-from.i (c.in-Some.from, c.in-Some.to) c.in-Some.ensures.value in
    let within = here.0 in
    record {
      before = beside_more (move_tests c.args.size) 0 c.loop-from.at c.in_ok-at.at c.args.perm.now c.loop-from.i (c.in-Some.from, c.in-Some.to) here.0 here.1 c.loop-from.invariant.before c.in_ok-at.ensures.walk;
      within = omega (arith, within);
    }

pub returns-clause-walk : goal.returns-clause-walk
returns-clause-walk c =
    let past = move_none c.args.perm.now c.loop-from.i c.in_default.ensures.value in
    c.loop-from.invariant.before ∙ ap (λ (ms : List (ℕ × ℕ)). walked 0 (beside_earlier (move_tests c.args.size) [] ms)) (take_all c.loop-from.i c.args.perm.now past)
