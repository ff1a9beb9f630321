use Rattle.std.proofs.Common.{◌∙◌, ◌+◌, arith}
use Rattle.funcs.specs.Areas.{item_value, items_of}
use Rattle.funcs.specs.Counts.{counts}
use Rattle.funcs.proofs.Counting.{count-next_list}
use Rattle.funcs.proofs.list.count.Goals as goal

pub loop-arg-preserved : goal.loop-arg-preserved
loop-arg-preserved g c = record {
  count = (λ j. c.loop-arg.invariant.count j + c.count_arg-count.ensures.count j)
      ∙ count-next_list (λ i. counts c.args.counted (item_value i)) (λ a. items_of (g.L.Look.environment c.args.look.now) a) c.args.args.now c.loop-arg.arg-index c.arg-item.result
      c.loop-arg-test.true c.arg-item.is;
  few = omega (arith, c.loop-arg.invariant.few, c.count_arg-count.ensures.few);
}
