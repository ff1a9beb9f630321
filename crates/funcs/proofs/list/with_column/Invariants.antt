use Rattle.std.proofs.Common.{◌≡◌, ◌≤◌, ◌+◌, drop}
use Rattle.funcs.specs.Areas.{sheet_numbers}
use Rattle.funcs.specs.Tallies.{with_numbers}
use Rattle.funcs.proofs.list.with_column.Given as goal

abbrev pub invariant-loop-v : goal.invariant-loop-v
invariant-loop-v l = record {
  numbers : with_numbers l.fn.found (sheet_numbers l.values) ≡ with_numbers l.found (sheet_numbers (drop l.v-index l.values));
  few : l.found.count ≤ l.fn.found.count + l.v-index;
}
