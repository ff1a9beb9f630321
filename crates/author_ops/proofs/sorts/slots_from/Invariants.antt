use Rattle.std.proofs.Common.{◌≡◌, take, drop}
use Rattle.marked_lines.specs.Marks.{visible_places}
use Rattle.sheet_grid.specs.Values.{placed_in}
use Rattle.author_ops.proofs.sorts.slots_from.Given as goal

abbrev pub invariant-loop-k : goal.invariant-loop-k
invariant-loop-k l = l.slots.items ≡ take l.k (drop l.first (visible_places (placed_in l.sheet).rows))
