use Rattle.std.proofs.Common.{◌≡◌, map, take}
use Rattle.pair_transform.specs.AxisMaps.{line_map}
use Rattle.pair_transform.proofs.sheet_map.slots_moved.Given as goal

abbrev pub invariant-loop-slot : goal.invariant-loop-slot
invariant-loop-slot l = l.moved ≡ map (line_map l.rows).slot (take l.slot-index l.slot-items)
