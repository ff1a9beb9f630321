use Rattle.std.proofs.Common.{◌≡◌, drop}
use Rattle.std.specs.List.{position_from}
use Rattle.sheet_value.specs.declared.value.Value.TheVariants as value
use Rattle.funcs.specs.Areas.{same}
use Rattle.funcs.proofs.table.number_place.Given as goal

abbrev pub invariant-loop-i : goal.invariant-loop-i
invariant-loop-i l = position_from (λ v. same v (value.Num l.n)) 0 l.values ≡ position_from (λ v. same v (value.Num l.n)) l.i (drop l.i l.values)
