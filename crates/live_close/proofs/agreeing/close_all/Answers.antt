use Rattle.std.proofs.Common.{ap, sym, ◌∙◌}
use Rattle.recalc_loop.proofs.Cuts.{changed_more}
use Rattle.live_close.specs.Parts.{with_mark}
use Rattle.live_close.proofs.agreeing.close_all.Goals as goal

pub loop-i-preserved : goal.loop-i-preserved
loop-i-preserved g c =
    changed_more with_mark c.args.publishers.now c.loop-i.publishers c.loop-i.i c.index-publishers-i.result c.close.new.self
    c.loop-i.invariant c.loop-i-test.true c.index-publishers-i.is (c.in_ok-_told.ensures.ok ∙ ap with_mark (sym c.index-publishers-i.is))
