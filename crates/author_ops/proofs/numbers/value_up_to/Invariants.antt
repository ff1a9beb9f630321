use Rattle.std.proofs.Common.{◌≡◌, ◌≤◌, take}
use Rattle.std.specs.Str.Parse.{digits_value}
use Rattle.author_ops.proofs.numbers.value_up_to.Given as goal

abbrev pub invariant-loop-i : goal.invariant-loop-i
invariant-loop-i l = record {
  value : l.value ≡ digits_value 10 (take l.i l.digits);
  within : l.value ≤ l.limit;
}
