use Rattle.std.proofs.Common.{◌≡◌, map, take}
use Rattle.sheet_ops.specs.Maps.{put_moved}
use Rattle.pair_transform.specs.StayingLines.{lines_map}
use Rattle.pair_transform.proofs.staying.Staying.has_puts.Given as goal

abbrev pub invariant-loop-i : goal.invariant-loop-i
invariant-loop-i l = map (put_moved (lines_map l.self.rows) (lines_map l.self.cols)) (take l.i l.puts) ≡ take l.i l.puts
