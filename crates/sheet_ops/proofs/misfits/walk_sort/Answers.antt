use Rattle.std.proofs.Common.{ap, sym, ◌∙◌, Bool, length, [], ◌∷◌, ◌++◌, cond, false}
use Rattle.std.proofs.lemmas.Result.{err_from_is_err_and}
use Rattle.sheet_ops.specs.Misfits.{walked, beside_earlier, slot_tests, rec_tests, missing_tests}
use Rattle.sheet_ops.proofs.FirstMisfit.{walked_on, walked_out, sort_walked, is_below, is_not_below}
use Rattle.sheet_ops.proofs.misfits.walk_sort.Goals as goal

pub returns-in_err-at : goal.returns-in_err-at
returns-in_err-at c =
    let p = err_from_is_err_and c.from_residual.result c.from_residual.ensures.1 in
    let S = beside_earlier (slot_tests c.args.size) [] c.args.slots.now in
    let R = beside_earlier (rec_tests c.args.size (length c.args.slots.now)) [] c.args.recs.now in
    rw (p.1, p.2) (sym (walked_out 0 c.in_err-at.field-0.0 (S ++ R) (missing_tests c.args.size c.args.slots.now c.args.recs.now) (walked_out 0 c.in_err-at.field-0.0 S R (sym c.in_err-at.ensures))))

pub returns-in_err-at-2 : goal.returns-in_err-at-2
returns-in_err-at-2 c =
    let p = err_from_is_err_and c.from_residual-in_err-at-2.result c.from_residual-in_err-at-2.ensures.1 in
    let S = beside_earlier (slot_tests c.args.size) [] c.args.slots.now in
    let R = beside_earlier (rec_tests c.args.size (length c.args.slots.now)) [] c.args.recs.now in
    rw (p.1, p.2) (sym (walked_out 0 c.in_err-at-2.field-0.0 (S ++ R) (missing_tests c.args.size c.args.slots.now c.args.recs.now) (walked_on 0 c.in_ok-at.at S R (sym c.in_ok-at.ensures) ∙ sym c.in_err-at-2.ensures)))

pub returns-then-recs-slots : goal.returns-then-recs-slots
returns-then-recs-slots c =
    sym (sort_walked c.args.size c.args.slots.now c.args.recs.now c.in_ok-at.at c.in_ok-at-2.at c.in_ok-at.ensures c.in_ok-at-2.ensures
    ∙ ap (λ (t : Bool). walked c.in_ok-at-2.at (cond t (false ∷ []) [])) (is_below (length c.args.recs.now) (length c.args.slots.now) c.if-recs-slots.true))

pub returns : goal.returns
returns c =
    sym (sort_walked c.args.size c.args.slots.now c.args.recs.now c.in_ok-at.at c.in_ok-at-2.at c.in_ok-at.ensures c.in_ok-at-2.ensures
    ∙ ap (λ (t : Bool). walked c.in_ok-at-2.at (cond t (false ∷ []) [])) (is_not_below (length c.args.recs.now) (length c.args.slots.now) c.if-recs-slots.false))
