use Rattle.std.proofs.Common.{◌≡◌, ◌≤◌, ◌*◌, drop}
use Rattle.funcs.specs.Areas.{items_of_all, item_numbers}
use Rattle.funcs.specs.Tallies.{nothing_tallied, with_numbers}
use Rattle.funcs.proofs.list.tally.Given as goal

abbrev pub invariant-loop-arg : goal.invariant-loop-arg
invariant-loop-arg g l = let E = g.L.Look.environment l.look in record {
  numbers : with_numbers nothing_tallied (item_numbers (items_of_all E l.args)) ≡ with_numbers l.found (item_numbers (items_of_all E (drop l.arg-index l.args)));
  few : l.found.count ≤ 256000000 * l.arg-index;
}
