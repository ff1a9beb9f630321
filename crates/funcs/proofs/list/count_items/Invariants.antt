use Rattle.std.proofs.Common.{◌≡◌, ◌≤◌, take, count_by}
use Rattle.funcs.specs.Areas.{items}
use Rattle.funcs.specs.Counts.{counts}
use Rattle.funcs.proofs.list.count_items.Given as goal

abbrev pub invariant-loop-i : goal.invariant-loop-i
invariant-loop-i l = record {
  count : l.count ≡ count_by (λ v. counts l.counted v) (take l.i (items l.area));
  few : l.count ≤ l.i;
}
