use Rattle.std.proofs.Common.{◌≡◌, ◌≤◌, ◌-◌, ◌++◌, length, take}
use Rattle.std.specs.List.{flat_map}
use Rattle.sheet_text.specs.Operations.{move_text}
use Rattle.sheet_text.proofs.operations.push_pairs.Given as goal

abbrev pub invariant-loop-from : goal.invariant-loop-from
invariant-loop-from l = record {
  text : l.out.items ≡ l.initial.out.items ++ flat_map move_text (take l.i l.perm);
  within : l.i ≤ length l.perm;
}

abbrev pub decreases-loop-from : goal.decreases-loop-from
decreases-loop-from l = length l.perm - l.i
