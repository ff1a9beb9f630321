use Rattle.std.proofs.Common.{◌≡◌, ◌≤◌, ◌+◌, suc, List, ap, sym, ◌∙◌, subst, take, drop, length}
use Rattle.ss_base.specs.declared.types.Size.{Size}
use Rattle.sheet_ops.specs.declared.operation.Intent.{Intent}
use Rattle.sheet_ops.specs.Chains.{size_past}
use Rattle.sheet_ops.specs.Naming.{effect_of_intent}
use Rattle.sheet_ops.specs.Placed.{placed_size}
use Rattle.sheet_grid.specs.Values.{placed_in}
use Rattle.name_model.specs.InTurn.{EachFitsInTurn, StepsEach, size_past_each}
use Rattle.name_model.proofs.Sized.{grows}
use Rattle.name_model.proofs.Turns.{taken_more, next_left, size_more, steps_more, room_left}
use Rattle.name_model.proofs.steps.apply_each.Goals as goal

pub loop-op-preserved : goal.loop-op-preserved
loop-op-preserved c =
    let own = c.args.own.now in
    let i = c.loop-op.op-index in
    let op = c.op-item.result in
    let P = placed_in c.args.sheet.now in
    let R = placed_in c.loop-op.sheet in
    let Q = placed_in c.apply_own.new.sheet in
    let inv = c.loop-op.invariant in
    let size = c.in_ok-apply_own.ensures.size in
    let more = grows (placed_size R) (effect_of_intent op) in
    let taken = taken_more own i op c.loop-op-test.true c.op-item.is in
    let left = next_left own i op c.loop-op-test.true c.op-item.is in
    record {
      steps = subst (λ (cs : List Intent). StepsEach P cs Q) (sym taken) (steps_more P R Q (take i own) op inv.steps c.in_ok-apply_own.ensures.step);
      size = size ∙ (ap (λ (z : Size). size_past z (effect_of_intent op)) inv.size ∙ (sym (size_more (placed_size P) (take i own) op) ∙ ap (λ (cs : List Intent). size_past_each (placed_size P) cs) (sym taken)));
      fits = subst (λ (z : Size). EachFitsInTurn z (drop (i + 1) own)) (sym size) (subst (λ (cs : List Intent). EachFitsInTurn (placed_size R) cs) left inv.fits).1;
      rows = room_left (placed_size R).rows (placed_size Q).rows (length (drop i own)) (length (drop (i + 1) own)) inv.rows (ap (λ (cs : List Intent). length cs) left) (subst (λ (z : Size). z.rows ≤ (placed_size R).rows + 1) (sym size) more.0);
      cols = room_left (placed_size R).cols (placed_size Q).cols (length (drop i own)) (length (drop (i + 1) own)) inv.cols (ap (λ (cs : List Intent). length cs) left) (subst (λ (z : Size). z.cols ≤ (placed_size R).cols + 1) (sym size) more.1);
    }
