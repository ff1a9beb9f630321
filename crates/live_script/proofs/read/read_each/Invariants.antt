use Rattle.std.proofs.Common.{◌≡◌, ◌+◌, ◌-◌, ◌≤◌, ℕ, List, Some}
use Rattle.ss_base.specs.Lines.{lines_left}
use Rattle.live_script.specs.Scripts.{live_script}
use Rattle.live_script.specs.SoFar.{IsSoFar}
use Rattle.live_script.proofs.Appending.{Commands}
use Rattle.live_script.proofs.Reached.{Reads}
use Rattle.live_script.proofs.read.read_each.Given as goal

abbrev pub invariant-loop-feed : goal.invariant-loop-feed
invariant-loop-feed g l = record {
  within : l.feed.used ≤ 1048576;
  room : l.number + (1048576 - l.feed.used) ≤ 1048577;
  state : (bytes : List ℕ) → g.S.Source.left l.fn.source ≡ Some bytes → Reads (live_script bytes) (lines_left l.feed (g.S.Source.left l.source)) l.collected l.number;
  made : (cs : Commands) × IsSoFar cs l.collected;
  read : g.S.Source.faults l.fn.source ≤ g.S.Source.faults l.source;
}

abbrev pub decreases-loop-feed : goal.decreases-loop-feed
decreases-loop-feed g l = 1048576 - l.feed.used
