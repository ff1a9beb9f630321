use Rattle.std.proofs.Common.{◌≡◌, ◌∙◌, ◌+◌, Bool, ap, arith, cond}
use mir.Val.{bool_byte}
use Rattle.funcs.specs.Refs.{owned}
use Rattle.funcs.specs.Areas.{items}
use Rattle.funcs.specs.Counts.{counts}
use Rattle.funcs.proofs.Counting.{count-next, test-le, test-byte}
use Rattle.funcs.proofs.list.count_items.Goals as goal

pub loop-i-preserved : goal.loop-i-preserved
loop-i-preserved c =
    let step : c.from-count.result ≡ cond (counts c.args.counted (owned c.item.result)) 1 0 =
    c.from-count.ensures ∙ (ap (λ (t : Bool). bool_byte t) c.counts.ensures ∙ test-byte (counts c.args.counted (owned c.item.result))) in
    let small = test-le (counts c.args.counted (owned c.item.result)) in
    record {
      count = (λ j. c.loop-i.invariant.count j + step j) ∙ count-next (λ v. counts c.args.counted v) (items c.args.area.now) c.loop-i.i (owned c.item.result) c.item.ensures;
      few = omega (arith, c.loop-i.invariant.few, step, small);
    }
