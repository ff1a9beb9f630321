-- Which cells a walk may skip.
use Rattle.std.specs.Prelude.{◌≡◌, ℕ, ◌<◌, List, length, slice_index_or}
use Rattle.cell_walk.specs.declared.walking.Colour.{Colour}
use Rattle.cell_walk.specs.declared.walking.Colour.TheVariants.{Ordered}
use Rattle.cell_walk.specs.Walks.{hue}

-- for each cell one behind it: those in between are in order
pub record MaySkip (colours : List Colour) (after : List ℕ) : Type 0 where
  pub len : length after ≡ length colours
  pub ahead : (c : ℕ) → c < length after → c < slice_index_or after c 0
  pub ordered : (c d : ℕ) → c < length after → c < d → d < slice_index_or after c 0 → hue colours d ≡ Ordered
