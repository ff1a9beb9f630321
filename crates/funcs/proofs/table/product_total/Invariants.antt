use Rattle.std.proofs.Common.{◌≡◌, ◌≤◌, drop}
use Rattle.funcs.specs.Steps.{all_of}
use Rattle.funcs.specs.Areas.{items}
use Rattle.funcs.specs.Tables.{products}
use Rattle.funcs.specs.Tallies.{nothing_tallied, with_numbers}
use Rattle.funcs.proofs.table.product_total.Given as goal

abbrev pub invariant-loop-i : goal.invariant-loop-i
invariant-loop-i l = record {
  numbers : with_numbers nothing_tallied (all_of (products (items l.xs) (items l.ys))) ≡ with_numbers l.found (all_of (products (drop l.i (items l.xs)) (drop l.i (items l.ys))));
  few : l.found.count ≤ l.i;
}
