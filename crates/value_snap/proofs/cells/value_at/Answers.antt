use Rattle.std.proofs.Common.{◌≡◌, subst}
use Rattle.std.specs.Prelude.{IfOk, Some, None}
use Rattle.sheet_value.specs.declared.value.Value.{Value}
use Rattle.value_snap.proofs.CellValues.{value_is}
use Rattle.value_snap.proofs.cells.value_at.Goals as goal

pub returns-in-Some : goal.returns-in-Some
returns-in-Some c =
    subst (λ (x : Value). IfOk c.copy.result (λ v. v ≡ x)) (value_is c.args.values.now c.args.row c.args.col (Some c.in-Some.value.now) c.in-Some.ensures.value) c.copy.ensures

pub returns-in-None : goal.returns-in-None
returns-in-None c = value_is c.args.values.now c.args.row c.args.col None c.in-None.ensures.value
