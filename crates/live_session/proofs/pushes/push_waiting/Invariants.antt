use Rattle.std.proofs.Common.{◌≡◌, ◌+◌, ◌-◌, ◌≤◌, length}
use Rattle.sheet_ops.specs.Represents.{ClientState}
use Rattle.live_session.specs.Pushing.{Pushes, StandsIn}
use Rattle.live_session.specs.Sessions.{entries_by}
use Rattle.live_session.proofs.pushes.push_waiting.Given as goal

abbrev pub invariant-loop-count : goal.invariant-loop-count
invariant-loop-count l = record {
  pushes : Pushes l.site l.initial.hub l.hub l.initial.unpushed.items l.unpushed.items;
  counted : length l.initial.unpushed.items ≡ l.count + length l.unpushed.items;
  within : l.count ≤ l.most;
  stands : (c : ClientState) → StandsIn l.initial.hub c l.site.0 (entries_by l.site l.initial.unpushed.items) → StandsIn l.hub c l.site.0 (entries_by l.site l.unpushed.items);
}

abbrev pub decreases-loop-count : goal.decreases-loop-count
decreases-loop-count l = l.most - l.count
