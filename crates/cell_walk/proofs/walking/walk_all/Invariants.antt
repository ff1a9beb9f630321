use Rattle.std.proofs.Common.{◌≡◌, ◌≢◌, ℕ, ◌<◌, [], length, reverse}
use Rattle.cell_walk.specs.declared.walking.Colour.TheVariants.{White}
use Rattle.cell_walk.specs.Walks.{hue, Holds}
use Rattle.cell_walk.specs.Skips.{MaySkip}
use Rattle.cell_walk.proofs.walking.walk_all.Given as goal

abbrev pub invariant-loop-cell : goal.invariant-loop-cell
invariant-loop-cell g l = record {
  len : length l.walk.colours.items ≡ length l.fn.colours.items;
  empty : l.walk.stack.items ≡ [];
  holds : Holds (g.G.Mentions.mentions l.graph) (g.G.Mentions.rest l.graph) (hue l.fn.colours.items) (hue l.walk.colours.items) (reverse l.walk.order.items) [];
  skips : MaySkip l.walk.colours.items l.walk.after.items;
  seen : (c : ℕ) → c < l.cell → hue l.walk.colours.items c ≢ White;
}
