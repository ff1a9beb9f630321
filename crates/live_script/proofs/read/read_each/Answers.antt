use Rattle.std.proofs.Common.{◌≡◌, [], ◌∙◌, arith, ap, sym, refl, subst, Ok, Err}
use Rattle.ss_base.specs.Lines.{FeedState}
use Rattle.live_script.specs.SoFar.{SoFar, IsSoFar}
use Rattle.live_script.proofs.Holding.{holds_first, opened}
use Rattle.live_script.proofs.Reached.{of_line, reads_first, reads_on, stop_at_end, stop_at_long, stop_at_error, script_here}
use Rattle.live_script.proofs.read.read_each.Goals as goal

pub returns-in-Ok-End-clause-stops : goal.returns-in-Ok-End-clause-stops
returns-in-Ok-End-clause-stops g c bytes told = stop_at_end _ _ _ _ (c.loop-feed.invariant.state bytes told) _ _ (rw c.in-Ok-End.field-0-is at c.in-Ok-End.ensures.line)

pub returns-in-Err-TooLong-clause-stops : goal.returns-in-Err-TooLong-clause-stops
returns-in-Err-TooLong-clause-stops g c bytes told = stop_at_long _ _ _ _ (c.loop-feed.invariant.state bytes told) _ _ (rw c.in-Err-TooLong.field-0-is at c.in-Err-TooLong.ensures.line)

pub returns-in-Err-take_line-clause-stops : goal.returns-in-Err-take_line-clause-stops
returns-in-Err-take_line-clause-stops g c bytes told =
    stop_at_error _ _ _ _ (c.loop-feed.invariant.state bytes told) _ _ (rw c.in-Ok-Line.field-0-is at c.in-Ok-Line.ensures.line) c.take_line.new.collected c.in-Err-take_line.stop
    (of_line c.loop-feed.collected c.take_line.new.collected c.loop-feed.number _ _ (Err c.in-Err-take_line.stop) _ c.line.ensures.line refl c.in-Err-take_line.ensures)

pub returns-in-Ok-Ended-clause-script : goal.returns-in-Ok-Ended-clause-script
returns-in-Ok-Ended-clause-script g c bytes told =
    script_here _ _ _ _ (c.loop-feed.invariant.state bytes told) _ _ (rw c.in-Ok-Line.field-0-is at c.in-Ok-Line.ensures.line) c.take_line.new.collected
    (of_line _ _ _ _ _ _ _ c.line.ensures.line (ap Ok c.in-Ok-Ended.field-0-is) c.in-Ok-Ended.ensures)

pub returns-in-Ok-Ended-clause-opened : goal.returns-in-Ok-Ended-clause-opened
returns-in-Ok-Ended-clause-opened g c =
    let (turn, same, sheet) = of_line c.loop-feed.collected c.take_line.new.collected c.loop-feed.number c.line.result.now c.line.result.now _ _ refl (ap Ok c.in-Ok-Ended.field-0-is) c.in-Ok-Ended.ensures in
    let (cs, h) = c.loop-feed.invariant.made in
    opened cs c.take_line.new.collected (subst (IsSoFar cs) (sym same) h) (ap (λ (t : SoFar). t.declared.sheet) same ∙ sheet)

pub loop-feed-preserved : goal.loop-feed-preserved
loop-feed-preserved g c =
    let k = of_line _ _ _ _ _ _ _ c.line.ensures.line (ap Ok c.in-Ok-GoesOn.field-0-is) c.in-Ok-GoesOn.ensures in
    let (cs, h) = c.loop-feed.invariant.made in record {
      within = (rw c.in-Ok-Line.field-0-is at c.in-Ok-Line.ensures.progress).1;
      room = omega (arith, c.loop-feed.invariant.room, rw c.in-Ok-Line.field-0-is at c.in-Ok-Line.ensures.progress);
      state = λ bytes told. reads_on _ _ _ _ (c.loop-feed.invariant.state bytes told) _ _ (rw c.in-Ok-Line.field-0-is at c.in-Ok-Line.ensures.line) c.take_line.new.collected k;
      made = (_, k.2 cs h);
      read = omega (arith, c.loop-feed.invariant.read, c.read_line.ensures.count);
    }

pub loop-feed-init : goal.loop-feed-init
loop-feed-init g c =
    let empty : c.in-Ok.feed ≡ record { line = []; ahead = []; used = 0 } = c.in-Ok.ensures in
    let used : c.in-Ok.feed.used ≡ 0 = ap (λ (f : FeedState). f.used) empty in record {
      within = omega (arith, used);
      room = omega (arith, used);
      state = λ bytes told. reads_first bytes c.in-Ok.feed empty _ told c.args.collected.now c.requires;
      made = ([], subst (IsSoFar []) (sym c.requires) holds_first);
      read = omega (arith, used);
    }
