use Rattle.std.proofs.Common.{◌≡◌, ◌*◌, ◌≤◌, take, count_by}
use Rattle.funcs.specs.Areas.{item_value, items_of_all}
use Rattle.funcs.specs.Counts.{counts}
use Rattle.funcs.proofs.list.count.Given as goal

abbrev pub invariant-loop-arg : goal.invariant-loop-arg
invariant-loop-arg g l = record {
  count : l.count ≡ count_by (λ i. counts l.counted (item_value i)) (items_of_all (g.L.Look.environment l.look) (take l.arg-index l.args));
  few : l.count ≤ 256000000 * l.arg-index;
}
