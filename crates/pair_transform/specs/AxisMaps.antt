-- Where the positions of one axis go.
use Rattle.std.specs.Prelude.{ℕ}
use Rattle.marked_lines.specs.Moves.{IsPerm, MovesBelow}
use Rattle.sheet_ops.specs.Maps.{LineMap, unmoved, past_insertion, past_moves}
use Rattle.pair_transform.specs.declared.axis_map.AxisMap.{AxisMap}
use Rattle.pair_transform.specs.declared.axis_map.AxisMap.TheVariants.{Same, Inserted, Moved}

abbrev pub line_map : AxisMap → LineMap
line_map Same = unmoved
line_map (Inserted position) = past_insertion position
line_map (Moved moves) = past_moves moves.now

-- among so many lines none goes outside them and what came in
abbrev pub IsAxisMap : ℕ → AxisMap → Type 0
IsAxisMap count Same = Unit {0}
IsAxisMap count (Inserted position) = Unit {0}
IsAxisMap count (Moved moves) = IsPerm moves.now × MovesBelow count moves.now
