use Rattle.std.proofs.Common.{◌≡◌, drop}
use Rattle.std.specs.List.{position_from}
use Rattle.funcs.specs.Refs.{owned}
use Rattle.funcs.specs.Areas.{items, same}
use Rattle.funcs.proofs.table.place_in_items.Given as goal

abbrev pub invariant-loop-i : goal.invariant-loop-i
invariant-loop-i l = position_from (λ v. same v (owned l.x)) 0 (items l.area) ≡ position_from (λ v. same v (owned l.x)) l.i (drop l.i (items l.area))
