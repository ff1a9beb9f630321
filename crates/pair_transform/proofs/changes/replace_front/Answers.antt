use Rattle.std.proofs.Common.{◌<◌, ap, ◌∙◌, length, take, drop, None, arith}
use Rattle.std.proofs.lemmas.List.{length-drop}
use Rattle.pair_transform.proofs.Replaced.{length-replaced, replaced_step, drop_again}
use Rattle.pair_transform.proofs.changes.replace_front.Goals as goal

pub replace_at-requires : goal.replace_at-requires
replace_at-requires g c =
    let n = ap length c.loop-at.invariant.done ∙ length-replaced (take c.loop-at.at c.args.changes.items) c.args.list.now.items in
    omega (arith, n, c.requires, c.loop-at-test.true, c.len-at-end.ensures, c.args.changes.ok)

pub loop-at-preserved : goal.loop-at-preserved
loop-at-preserved g c =
    let below : c.loop-at.at < length c.args.changes.items = omega (arith, c.loop-at-test.true, c.len-at-end.ensures, c.args.changes.ok) in
    let n = ap length c.loop-at.invariant.left ∙ length-drop c.loop-at.at c.args.changes.items in
    record {
      done = replaced_step c.args.changes.items c.args.list.now.items c.loop-at.at below c.requires c.loop-at.changes.items c.loop-at.invariant.left c.pop_front.result
          (c.pop_front.ensures.value None (omega (arith, n, below, c.loop-at.changes.ok))) c.flatten-change.result c.flatten-change.ensures c.loop-at.list.items c.replace_at.new.list.items c.loop-at.invariant.done c.replace_at.ensures;
      left = c.pop_front.ensures.rest ∙ (ap (drop 1) c.loop-at.invariant.left ∙ drop_again c.loop-at.at c.args.changes.items);
    }
