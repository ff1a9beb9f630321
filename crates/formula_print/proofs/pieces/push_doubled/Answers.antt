use Rattle.formula_print.proofs.Calls.{doubled-more, both_appended}
use Rattle.formula_print.proofs.pieces.push_doubled.Goals as goal

pub loop-b-preserved : goal.loop-b-preserved
loop-b-preserved c =
    both_appended c.args.out.now.items _ _ _ _ c.loop-b.out.items c.push_if.new.out.items c.push_byte.new.out.items
    c.loop-b.invariant c.in_ok-push_if.ensures c.in_ok-push_byte.ensures (doubled-more c.args.text.now c.loop-b.b-index c.loop-b-test.true)
