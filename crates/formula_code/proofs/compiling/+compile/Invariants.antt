use Rattle.std.proofs.Common.{◌≡◌, ◌++◌, take}
use Rattle.std.specs.List.{flat_map}
use Rattle.formula_code.specs.Code.{expr_code}
use Rattle.formula_code.proofs.compiling.+compile.Given as goal

abbrev pub invariant-push_all-loop-e : goal.invariant-push_all-loop-e
invariant-push_all-loop-e l = l.steps.items ≡ l.initial.steps.items ++ flat_map expr_code (take l.e-index l.exprs)
