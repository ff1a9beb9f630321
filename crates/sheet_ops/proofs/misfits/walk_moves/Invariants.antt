use Rattle.std.proofs.Common.{◌≡◌, ◌≤◌, ◌-◌, [], length, take}
use Rattle.std.specs.Prelude.{Ok}
use Rattle.sheet_ops.specs.Misfits.{walked, beside_earlier, move_tests}
use Rattle.sheet_ops.proofs.misfits.walk_moves.Given as goal

abbrev pub invariant-loop-from : goal.invariant-loop-from
invariant-loop-from l = record {
  before : Ok l.at ≡ walked 0 (beside_earlier (move_tests l.size) [] (take l.i l.perm));
  within : l.i ≤ length l.perm;
}

abbrev pub decreases-loop-from : goal.decreases-loop-from
decreases-loop-from l = length l.perm - l.i
