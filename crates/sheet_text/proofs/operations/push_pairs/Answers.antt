use Rattle.std.proofs.Common.{ℕ, List, ◌≤◌, ◌++◌, ap, sym, ◌∙◌, subst, arith}
use Rattle.std.specs.List.{flat_map}
use Rattle.std.proofs.lemmas.List.{take_all}
use Rattle.sheet_ops.proofs.FirstMisfit.{move_at, move_rank, move_none}
use Rattle.sheet_text.specs.Operations.{move_text}
use Rattle.sheet_text.proofs.Appended.{one_appended, pieces_more}
use Rattle.sheet_text.proofs.operations.push_pairs.Goals as goal

pub push_move-requires : goal.push_move-requires
push_move-requires c =
    let here = move_at c.args.perm.now c.loop-from.i (c.in-Some.from, c.in-Some.to) c.in-Some.ensures.value in
    let low = subst (λ (m : ℕ × ℕ). (m.0 ≤ 16000) × (m.1 ≤ 16000)) (sym here.1) (c.requires c.loop-from.i (c.in-Some.from, c.in-Some.to) here.0) in
    record { from = low.0; to = low.1 }

pub overflow_add-i : goal.overflow_add-i
overflow_add-i c =
    let here = move_at c.args.perm.now c.loop-from.i (c.in-Some.from, c.in-Some.to) c.in-Some.ensures.value in
    let rank = move_rank c.args.perm.now c.in-Some.ensures.bijective.ascending c.loop-from.i (c.in-Some.from, c.in-Some.to) here.0 in
    let at : c.loop-from.i ≤ c.in-Some.from = rw (← here.1) at rank in
    omega (arith, at)

pub loop-from-smaller : goal.loop-from-smaller
loop-from-smaller c =
    let here = move_at c.args.perm.now c.loop-from.i (c.in-Some.from, c.in-Some.to) c.in-Some.ensures.value in
    let within = here.0 in
    omega (arith, within)

pub loop-from-preserved : goal.loop-from-preserved
loop-from-preserved c =
    let here = move_at c.args.perm.now c.loop-from.i (c.in-Some.from, c.in-Some.to) c.in-Some.ensures.value in
    let within = here.0 in
    record {
      text =
          one_appended c.args.out.now.items _ _ _ c.loop-from.out.items c.push_move.new.out.items
          c.loop-from.invariant.text c.in_ok-push_move.ensures (pieces_more move_text c.args.perm.now c.loop-from.i (c.in-Some.from, c.in-Some.to) (c.in-Some.from, c.in-Some.to) here.0 here.1);
      within = omega (arith, within);
    }

pub returns : goal.returns
returns c =
    let past = move_none c.args.perm.now c.loop-from.i c.in_default.ensures.value in
    c.loop-from.invariant.text ∙ ap (λ (ms : List (ℕ × ℕ)). c.args.out.now.items ++ flat_map move_text ms) (take_all c.loop-from.i c.args.perm.now past)
