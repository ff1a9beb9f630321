use Rattle.std.proofs.Common.{◌≡◌, ◌<◌, ◌≤◌, ℕ}
use Rattle.std.specs.Prelude.{◌-◌}
use Rattle.cell_walk.specs.declared.walking.Colour.TheVariants.{Ordered}
use Rattle.cell_walk.specs.Walks.{hue}
use Rattle.cell_walk.specs.Skips.{MaySkip}
use Rattle.cell_walk.proofs.walking.first_open.Given as goal

abbrev pub invariant-loop-at : goal.invariant-loop-at
invariant-loop-at l = record {
  skips : MaySkip l.colours l.after;
  from : l.run.first ≤ l.at;
  passed : (c : ℕ) → l.run.first ≤ c → c < l.at → hue l.colours c ≡ Ordered;
}

abbrev pub decreases-loop-at : goal.decreases-loop-at
decreases-loop-at l = l.run.end - l.at
