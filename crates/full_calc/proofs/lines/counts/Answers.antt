use Rattle.std.proofs.Common.{Bool, true, false, cond, ◌+◌, ◌∙◌, ap, arith}
use Rattle.std.proofs.lemmas.List.{get_or_default}
use Rattle.full_calc.proofs.Counted.{no_counts, counts_more, all_counts}
use Rattle.full_calc.proofs.lines.counts.Goals as goal

pub loop-hidden-init : goal.loop-hidden-init
loop-hidden-init c = no_counts c.args.marks.now c.in_ok-before.before.items c.in_ok-before.ensures.items

pub with_line-count-requires : goal.with_line-count-requires
with_line-count-requires c = omega (arith, c.loop-hidden.invariant.within, c.loop-hidden-test.true, c.requires)

pub loop-hidden-preserved : goal.loop-hidden-preserved
loop-hidden-preserved c =
    counts_more c.args.marks.now c.loop-hidden.hidden-index c.loop-hidden.count c.with_line-count.result c.loop-hidden.before.items c.push.new.self.items c.loop-hidden-test.true c.loop-hidden.invariant c.in_ok-push.ensures.items
    (c.with_line-count.ensures ∙ ap (λ (b : Bool). cond b c.loop-hidden.count (c.loop-hidden.count + 1)) (get_or_default c.args.marks.now c.loop-hidden.hidden-index false true c.loop-hidden-test.true))

pub returns : goal.returns
returns c = all_counts c.args.marks.now c.loop-hidden.hidden-index c.loop-hidden.count c.loop-hidden.before.items c.push-2.new.self.items c.requires c.loop-hidden-test.false c.loop-hidden.invariant c.in_ok-push-2.ensures.items
