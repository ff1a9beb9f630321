use Rattle.std.proofs.Common.{◌≡◌, ◌≤◌, drop}
use Rattle.funcs.specs.Refs.{owned}
use Rattle.funcs.specs.Areas.{items, sheet_numbers}
use Rattle.funcs.specs.Tables.{chosen}
use Rattle.funcs.specs.Tallies.{nothing_tallied, with_numbers}
use Rattle.funcs.proofs.table.chosen_total.Given as goal

abbrev pub invariant-loop-i : goal.invariant-loop-i
invariant-loop-i l = record {
  numbers : with_numbers nothing_tallied (sheet_numbers (chosen (owned l.x) (items l.area) (items l.sums))) ≡ with_numbers l.found (sheet_numbers (chosen (owned l.x) (drop l.i (items l.area)) (drop l.i (items l.sums))));
  few : l.found.count ≤ l.i;
}
