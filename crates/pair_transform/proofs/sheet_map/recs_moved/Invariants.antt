use Rattle.std.proofs.Common.{◌≡◌, map, take}
use Rattle.pair_transform.specs.AxisMaps.{line_map}
use Rattle.pair_transform.proofs.sheet_map.recs_moved.Given as goal

abbrev pub invariant-loop-rec : goal.invariant-loop-rec
invariant-loop-rec l = l.moved ≡ map (line_map l.rows).rec (take l.rec-index l.rec-items)
