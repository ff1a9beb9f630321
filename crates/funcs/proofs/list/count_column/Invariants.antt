use Rattle.std.proofs.Common.{◌≡◌, ◌≤◌, take, count_by}
use Rattle.funcs.specs.Counts.{counts}
use Rattle.funcs.proofs.list.count_column.Given as goal

abbrev pub invariant-loop-v : goal.invariant-loop-v
invariant-loop-v l = record {
  count : l.count ≡ count_by (λ v. counts l.counted v) (take l.v-index l.values);
  few : l.count ≤ l.v-index;
}
