use Rattle.std.proofs.Common.{◌+◌, ◌≤◌, List, ap, sym, ◌∙◌, subst, drop, length}
use Rattle.ss_base.specs.declared.types.Size.{Size}
use Rattle.sheet_ops.specs.declared.operation.Intent.{Intent}
use Rattle.sheet_ops.specs.Fits.{EffectFits}
use Rattle.sheet_ops.specs.Naming.{effect_of_intent}
use Rattle.name_model.specs.InTurn.{own_each_past, other_past_each}
use Rattle.name_model.proofs.Sized.{grows}
use Rattle.name_model.proofs.Turns.{next_left, room_left, own_more, other_more, fits_rest}
use Rattle.name_model.proofs.several.pass_each.Goals as goal

pub loop-op-preserved : goal.loop-op-preserved
loop-op-preserved c =
    let ops = c.as_slice-op-items.result.now in
    let i = c.loop-op.op-index in
    let op = c.op-item.result in
    let now = c.loop-op.now in
    let next = c.size_past_own-now.result in
    let last = c.loop-op.last in
    let inv = c.loop-op.invariant in
    let pair = c.in_ok-after.ensures in
    let size = c.size_past_own-now.ensures in
    let more = grows now (effect_of_intent op) in
    let left = next_left ops i op c.loop-op-test.true c.op-item.is in
    record {
      own = own_more now next (drop i ops) (drop (i + 1) ops) op c.in_ok-after.after last c.in_ok-after.past left pair.own pair.other size
          (own_each_past c.args.size c.args.own.now c.args.other.now) c.loop-op.done c.push.new.self inv.own c.in_ok-push.ensures.ok;
      other = other_more now next (drop i ops) (drop (i + 1) ops) op c.in_ok-after.after last c.in_ok-after.past left pair.own pair.other size
          (other_past_each c.args.size c.args.own.now c.args.other.now) inv.other;
      fits = fits_rest now next (drop i ops) (drop (i + 1) ops) op c.in_ok-after.after last c.in_ok-after.past left pair.own pair.other size inv.fits;
      effect = subst (λ (z : Size). EffectFits z c.in_ok-after.past) (sym size) pair.other_fits;
      rows = room_left now.rows next.rows (length (drop i ops)) (length (drop (i + 1) ops)) inv.rows (ap (λ (cs : List Intent). length cs) left) (subst (λ (z : Size). z.rows ≤ now.rows + 1) (sym size) more.0);
      cols = room_left now.cols next.cols (length (drop i ops)) (length (drop (i + 1) ops)) inv.cols (ap (λ (cs : List Intent). length cs) left) (subst (λ (z : Size). z.cols ≤ now.cols + 1) (sym size) more.1);
    }
