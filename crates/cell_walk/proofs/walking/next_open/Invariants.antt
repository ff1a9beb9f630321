use Rattle.std.proofs.Common.{◌≡◌, ℕ, length}
use Rattle.std.specs.Prelude.{◌⊎◌}
use Rattle.cell_walk.specs.declared.walking.Colour.TheVariants.{Ordered}
use Rattle.cell_walk.specs.Walks.{IsIn, hue}
use Rattle.cell_walk.specs.Skips.{MaySkip}
use Rattle.cell_walk.proofs.walking.next_open.Given as goal

abbrev pub invariant-loop-run : goal.invariant-loop-run
invariant-loop-run g l = record {
  passed : (x : ℕ) → IsIn x (g.G.Mentions.rest l.graph l.cell l.fn.from) → (hue l.colours x ≡ Ordered) ⊎ IsIn x (g.G.Mentions.rest l.graph l.cell l.place);
  within : (x : ℕ) → IsIn x (g.G.Mentions.rest l.graph l.cell l.place) → IsIn x (g.G.Mentions.rest l.graph l.cell l.fn.from);
  skips : MaySkip l.colours l.after;
}

abbrev pub decreases-loop-run : goal.decreases-loop-run
decreases-loop-run g l = length (g.G.Mentions.rest l.graph l.cell l.place)
