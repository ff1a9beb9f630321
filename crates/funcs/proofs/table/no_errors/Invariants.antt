use Rattle.std.proofs.Common.{◌≡◌, map, take, drop}
use Rattle.funcs.specs.Steps.{all_of}
use Rattle.funcs.specs.Args.{no_error}
use Rattle.funcs.specs.Areas.{items}
use Rattle.funcs.proofs.Found.{appended}
use Rattle.funcs.specs.Tables.{no_errors}
use Rattle.funcs.proofs.table.no_errors.Given as goal

abbrev pub invariant-loop-i : goal.invariant-loop-i
invariant-loop-i l = no_errors l.area ≡ appended (take l.i (items l.area)) (all_of (map (λ v. no_error v) (drop l.i (items l.area))))
