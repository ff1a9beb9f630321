use Rattle.std.proofs.Common.{◌≡◌, map, take}
use Rattle.sheet_ops.specs.Maps.{put_moved}
use Rattle.pair_transform.specs.AxisMaps.{line_map}
use Rattle.pair_transform.proofs.sheet_map.SheetMap.puts.Given as goal

abbrev pub invariant-loop-put : goal.invariant-loop-put
invariant-loop-put l = l.moved ≡ map (put_moved (line_map l.self.rows) (line_map l.self.cols)) (take l.put-index l.put-items)
