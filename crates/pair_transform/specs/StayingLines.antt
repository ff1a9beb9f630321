-- Which lines of one axis stay.
use Rattle.std.specs.Prelude.{◌<◌, AllPairs}
use Rattle.sheet_ops.specs.Maps.{LineMap, past_moves}
use Rattle.sheet_ops.specs.Lines.{sort_moves}
use Rattle.pair_transform.specs.AxisMaps.{line_map}
use Rattle.pair_transform.specs.declared.staying_lines.StayingLines.{StayingLines}
use Rattle.pair_transform.specs.declared.staying_lines.StayingLines.TheVariants.{Map, Sort}

-- where the positions go among which they stay
abbrev pub lines_map : StayingLines → LineMap
lines_map (Map m) = line_map m
lines_map (Sort slots recs) = past_moves (sort_moves slots.now recs.now)

-- the slots of a sort ascend
abbrev pub HaveAscendingSlots : StayingLines → Type 0
HaveAscendingSlots (Map m) = Unit {0}
HaveAscendingSlots (Sort slots recs) = AllPairs (λ p q. p < q) slots.now
