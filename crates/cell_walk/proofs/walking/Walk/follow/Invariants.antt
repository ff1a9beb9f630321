use Rattle.std.proofs.Common.{◌≡◌, ◌≢◌, ℕ, length, reverse, sum_by}
use Rattle.cell_walk.specs.declared.walking.Colour.{Colour}
use Rattle.cell_walk.specs.declared.walking.Colour.TheVariants.{White}
use Rattle.cell_walk.specs.Walks.{hue, weight, Holds}
use Rattle.cell_walk.specs.Skips.{MaySkip}
use Rattle.cell_walk.proofs.walking.Walk.follow.Given as goal

abbrev pub invariant-loop-top : goal.invariant-loop-top
invariant-loop-top g l = record {
  len : length l.self.colours.items ≡ length l.initial.self.colours.items;
  holds : (first : ℕ → Colour) → Holds (g.G.Mentions.mentions l.graph) (g.G.Mentions.rest l.graph) first (hue l.initial.self.colours.items) (reverse l.initial.self.order.items) (reverse l.initial.self.stack.items) →
      Holds (g.G.Mentions.mentions l.graph) (g.G.Mentions.rest l.graph) first (hue l.self.colours.items) (reverse l.self.order.items) (reverse l.self.stack.items);
  skips : MaySkip l.self.colours.items l.self.after.items;
  seen : (c : ℕ) → hue l.initial.self.colours.items c ≢ White → hue l.self.colours.items c ≢ White;
}

abbrev pub decreases-loop-top : goal.decreases-loop-top
decreases-loop-top g l = sum_by weight l.self.colours.items
