use Rattle.std.proofs.Common.{◌≡◌, ◌+◌, ◌-◌, ◌≤◌, ℕ, List, ◌++◌, Some}
use Rattle.ss_base.specs.Lines.{lines_left}
use Rattle.script_read.specs.Script.{script}
use Rattle.script_run.specs.Transcript.{transcript}
use Rattle.sheetshare.proofs.Playing.{Reads, Runs}
use Rattle.sheetshare.proofs.Reaching.{HasDone}
use Rattle.sheetshare.proofs.play.play_each.Given as goal

abbrev pub invariant-loop-feed : goal.invariant-loop-feed
invariant-loop-feed g l = record {
  within : l.feed.used ≤ 1048576;
  room : l.number + (1048576 - l.feed.used) ≤ 1048577;
  told : (bytes before : List ℕ) → g.S.Source.left l.fn.source ≡ Some bytes → g.K.Sink.taken l.fn.sink ≡ Some before →
      Runs (script bytes) before (lines_left l.feed (g.S.Source.left l.source)) (g.K.Sink.taken l.sink) l.state l.number;
  state : (bytes : List ℕ) → g.S.Source.left l.fn.source ≡ Some bytes → Reads (script bytes) (lines_left l.feed (g.S.Source.left l.source)) l.state l.number;
  reached : (bytes : List ℕ) → g.S.Source.left l.fn.source ≡ Some bytes → HasDone bytes l.feed (g.S.Source.left l.source) l.state l.number;
  placed : (bytes before : List ℕ) → g.S.Source.left l.fn.source ≡ Some bytes → g.K.Sink.taken l.fn.sink ≡ Some before →
      (r : HasDone bytes l.feed (g.S.Source.left l.source) l.state l.number) × (g.K.Sink.taken l.sink ≡ Some (before ++ transcript r.commands));
  read : g.S.Source.faults l.fn.source ≤ g.S.Source.faults l.source;
  wrote : g.K.Sink.faults l.fn.sink ≤ g.K.Sink.faults l.sink;
}

abbrev pub decreases-loop-feed : goal.decreases-loop-feed
decreases-loop-feed g l = 1048576 - l.feed.used
