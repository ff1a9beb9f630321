use Rattle.std.proofs.Common.{◌≡◌, ◌≤◌, ◌+◌, drop}
use Rattle.funcs.specs.Areas.{items, sheet_numbers}
use Rattle.funcs.specs.Tallies.{with_numbers}
use Rattle.funcs.proofs.list.with_items.Given as goal

abbrev pub invariant-loop-i : goal.invariant-loop-i
invariant-loop-i l = record {
  numbers : with_numbers l.fn.found (sheet_numbers (items l.area)) ≡ with_numbers l.found (sheet_numbers (drop l.i (items l.area)));
  few : l.found.count ≤ l.fn.found.count + l.i;
}
