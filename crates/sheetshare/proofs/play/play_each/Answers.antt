use Rattle.std.proofs.Common.{◌≡◌, [], arith, ap, sym, subst, refl, Ok, Err}
use Rattle.ss_base.specs.Lines.{FeedState, lines, lines_left}
use Rattle.script_read.specs.Script.{script}
use Rattle.sheetshare.proofs.Playing.{of_line, Reads, Runs, starts, reads_first, runs_first, cut, at_end, at_long, at_stop, at_ended, goes_on, reads_on, world_here, opened_here, stop_at_end, stop_at_long, stop_at_error, stop_at_ended}
use Rattle.sheetshare.proofs.Reaching.{reached_first, placed_first, reaches_on, placed_on, faulted_at, ended_at}
use Rattle.sheetshare.proofs.play.play_each.Goals as goal

pub returns-in-Ok-End-clause-text : goal.returns-in-Ok-End-clause-text
returns-in-Ok-End-clause-text g c bytes before told taken = at_end _ _ _ _ _ _ (c.loop-feed.invariant.told bytes before told taken) _ _ (rw c.in-Ok-End.field-0-is at c.in-Ok-End.ensures.line)

pub returns-in-Err-ReadFault-clause-text : goal.returns-in-Err-ReadFault-clause-text
returns-in-Err-ReadFault-clause-text g c bytes before told taken = cut _ _ _ _ _ _ (c.loop-feed.invariant.told bytes before told taken)

pub returns-in-Err-TooLong-clause-text : goal.returns-in-Err-TooLong-clause-text
returns-in-Err-TooLong-clause-text g c bytes before told taken = at_long _ _ _ _ _ _ (c.loop-feed.invariant.told bytes before told taken) _ _ (rw c.in-Err-TooLong.field-0-is at c.in-Err-TooLong.ensures.line)

pub returns-in-Err-play_line-clause-text : goal.returns-in-Err-play_line-clause-text
returns-in-Err-play_line-clause-text g c bytes before told taken =
    at_stop _ _ _ _ _ _ (c.loop-feed.invariant.told bytes before told taken) c.play_line.new.state _ _ _ c.in-Err-play_line.status
    (rw c.in-Ok-Line.field-0-is at c.in-Ok-Line.ensures.line)
    (of_line c.loop-feed.state c.play_line.new.state c.loop-feed.number _ _ (g.K.Sink.taken c.loop-feed.sink) (g.K.Sink.taken c.play_line.new.sink) (Err c.in-Err-play_line.status) _ c.line.ensures.line refl c.in-Err-play_line.ensures.gives)

pub returns-in-Ok-Ended-clause-text : goal.returns-in-Ok-Ended-clause-text
returns-in-Ok-Ended-clause-text g c bytes before told taken =
    at_ended _ _ _ _ _ _ (c.loop-feed.invariant.told bytes before told taken) c.play_line.new.state _ _ _
    (rw c.in-Ok-Line.field-0-is at c.in-Ok-Line.ensures.line) (of_line _ _ _ _ _ _ _ _ _ c.line.ensures.line (ap Ok c.in-Ok-Ended.field-0-is) c.in-Ok-Ended.ensures.gives)

pub returns-in-Ok-Ended-clause-world : goal.returns-in-Ok-Ended-clause-world
returns-in-Ok-Ended-clause-world g c bytes told =
    world_here _ _ _ _ (c.loop-feed.invariant.state bytes told) c.play_line.new.state _ _ (rw c.in-Ok-Line.field-0-is at c.in-Ok-Line.ensures.line)
    (of_line _ _ _ _ _ _ _ _ _ c.line.ensures.line (ap Ok c.in-Ok-Ended.field-0-is) c.in-Ok-Ended.ensures.gives).turn

pub returns-in-Ok-Ended-clause-opened : goal.returns-in-Ok-Ended-clause-opened
returns-in-Ok-Ended-clause-opened g c =
    opened_here c.loop-feed.state c.play_line.new.state c.loop-feed.number c.line.result.now
    (of_line _ _ _ _ c.line.result.now _ _ _ _ refl (ap Ok c.in-Ok-Ended.field-0-is) c.in-Ok-Ended.ensures.gives).turn

pub returns-in-Ok-End-clause-stop : goal.returns-in-Ok-End-clause-stop
returns-in-Ok-End-clause-stop g c bytes told = stop_at_end _ _ _ _ (c.loop-feed.invariant.state bytes told) _ _ (rw c.in-Ok-End.field-0-is at c.in-Ok-End.ensures.line)

pub returns-in-Err-TooLong-clause-stop : goal.returns-in-Err-TooLong-clause-stop
returns-in-Err-TooLong-clause-stop g c bytes told = stop_at_long _ _ _ _ (c.loop-feed.invariant.state bytes told) _ _ (rw c.in-Err-TooLong.field-0-is at c.in-Err-TooLong.ensures.line)

pub returns-in-Err-play_line-clause-stop : goal.returns-in-Err-play_line-clause-stop
returns-in-Err-play_line-clause-stop g c bytes told =
    stop_at_error _ _ _ _ (c.loop-feed.invariant.state bytes told) c.play_line.new.state _ _ _ _
    (rw c.in-Ok-Line.field-0-is at c.in-Ok-Line.ensures.line) c.in-Err-play_line.status
    (of_line c.loop-feed.state c.play_line.new.state c.loop-feed.number _ _ (g.K.Sink.taken c.loop-feed.sink) (g.K.Sink.taken c.play_line.new.sink) (Err c.in-Err-play_line.status) _ c.line.ensures.line refl c.in-Err-play_line.ensures.gives)

pub returns-in-Ok-Ended-clause-stop : goal.returns-in-Ok-Ended-clause-stop
returns-in-Ok-Ended-clause-stop g c bytes told =
    stop_at_ended _ _ _ _ (c.loop-feed.invariant.state bytes told) c.play_line.new.state _ _ _ _ (rw c.in-Ok-Line.field-0-is at c.in-Ok-Line.ensures.line)
    (of_line _ _ _ _ _ _ _ _ _ c.line.ensures.line (ap Ok c.in-Ok-Ended.field-0-is) c.in-Ok-Ended.ensures.gives)

pub returns-in-Err-ReadFault-clause-read_place : goal.returns-in-Err-ReadFault-clause-read_place
returns-in-Err-ReadFault-clause-read_place g c bytes left before told rest taken _ =
    let (r, wrote) = c.loop-feed.invariant.placed bytes before told taken in
    faulted_at bytes _ _ c.loop-feed.state c.loop-feed.number r c.read_line.new.self _ left rest
    (rw c.in-Err-ReadFault.field-0-is at c.in-Err-ReadFault.ensures.bytes) (rw c.in-Err-ReadFault.field-0-is at c.in-Err-ReadFault.ensures.ahead) before _ wrote

pub returns-in-Ok-Ended-clause-end_place : goal.returns-in-Ok-Ended-clause-end_place
returns-in-Ok-Ended-clause-end_place g c bytes left told rest =
    ended_at bytes _ _ c.loop-feed.state c.loop-feed.number (c.loop-feed.invariant.reached bytes told) c.read_line.new.self _
    (rw c.in-Ok-Line.field-0-is at c.in-Ok-Line.ensures.progress).1 (rw c.in-Ok-Line.field-0-is at c.in-Ok-Line.ensures.progress).2
    (rw c.in-Ok-Line.field-0-is at c.in-Ok-Line.ensures.bytes) c.play_line.new.state left rest (rw c.in-Ok-Line.field-0-is at c.in-Ok-Line.ensures.ahead)
    (of_line _ _ _ _ _ _ _ _ _ c.line.ensures.line (ap Ok c.in-Ok-Ended.field-0-is) c.in-Ok-Ended.ensures.gives).turn

pub loop-feed-preserved : goal.loop-feed-preserved
loop-feed-preserved g c =
    let k = of_line _ _ _ _ _ _ _ _ _ c.line.ensures.line (ap Ok c.in-Ok-GoesOn.field-0-is) c.in-Ok-GoesOn.ensures.gives in record {
      within = (rw c.in-Ok-Line.field-0-is at c.in-Ok-Line.ensures.progress).1;
      room = omega (arith, c.loop-feed.invariant.room, rw c.in-Ok-Line.field-0-is at c.in-Ok-Line.ensures.progress);
      told = λ bytes before told taken.
          goes_on _ _ _ _ _ _ (c.loop-feed.invariant.told bytes before told taken) c.play_line.new.state _ _ _
          (rw c.in-Ok-Line.field-0-is at c.in-Ok-Line.ensures.line) k.turn _ k.written;
      state = λ bytes told.
          reads_on _ _ _ _ (c.loop-feed.invariant.state bytes told) c.play_line.new.state _ _
          (rw c.in-Ok-Line.field-0-is at c.in-Ok-Line.ensures.line) _ k.turn;
      reached = λ bytes told.
          reaches_on bytes _ _ c.loop-feed.state c.loop-feed.number (c.loop-feed.invariant.reached bytes told) c.read_line.new.self _
          (rw c.in-Ok-Line.field-0-is at c.in-Ok-Line.ensures.progress).1 (rw c.in-Ok-Line.field-0-is at c.in-Ok-Line.ensures.progress).2
          (rw c.in-Ok-Line.field-0-is at c.in-Ok-Line.ensures.bytes) c.play_line.new.state _ k.turn;
      placed = λ bytes before told taken.
          let (r, wrote) = c.loop-feed.invariant.placed bytes before told taken in
          placed_on bytes _ _ c.loop-feed.state c.loop-feed.number r c.read_line.new.self _
          (rw c.in-Ok-Line.field-0-is at c.in-Ok-Line.ensures.progress).1 (rw c.in-Ok-Line.field-0-is at c.in-Ok-Line.ensures.progress).2
          (rw c.in-Ok-Line.field-0-is at c.in-Ok-Line.ensures.bytes) c.play_line.new.state _ k.turn before _ _ wrote k.written;
      read = omega (arith, c.loop-feed.invariant.read, c.read_line.ensures.count);
      wrote = omega (arith, c.loop-feed.invariant.wrote, c.play_line.ensures.count);
    }

pub loop-feed-init : goal.loop-feed-init
loop-feed-init g c =
    let empty : c.in-Ok.feed ≡ record { line = []; ahead = []; used = 0 } = c.in-Ok.ensures in
    let used : c.in-Ok.feed.used ≡ 0 = ap (λ (f : FeedState). f.used) empty in record {
      within = omega (arith, used);
      room = omega (arith, used);
      told = λ bytes before told taken.
          subst (λ t. Runs (script bytes) before (lines_left c.in-Ok.feed (g.S.Source.left c.args.source.now)) (g.K.Sink.taken c.args.sink.now) t 1) (sym c.requires)
          (runs_first (lines bytes) before _ _ (starts c.in-Ok.feed empty bytes _ told) taken);
      state = λ bytes told.
          subst (λ t. Reads (script bytes) (lines_left c.in-Ok.feed (g.S.Source.left c.args.source.now)) t 1) (sym c.requires)
          (reads_first (lines bytes) _ (starts c.in-Ok.feed empty bytes _ told));
      reached = λ bytes told. reached_first bytes c.in-Ok.feed _ c.args.state.now c.requires empty told;
      placed = λ bytes before told taken. placed_first bytes before c.in-Ok.feed _ _ c.args.state.now c.requires empty told taken;
      read = omega (arith, used);
      wrote = omega (arith, used);
    }
