use Rattle.std.proofs.Common.{◌∙◌}
use Rattle.sheet_value.specs.Tables.{value_at}
use Rattle.sort_keys.proofs.Keying.{if_ok, filled_value, no_value}
use Rattle.sort_keys.proofs.edit_keys.value_of.Goals as goal

pub returns-in-Some : goal.returns-in-Some
returns-in-Some c =
    if_ok c.copy.result (λ v e. e ∙ filled_value (value_at c.args.grid.now c.args.row c.args.col) c.in-Some.value.now (rw c.in-Some.is at c.at.ensures)) c.copy.ensures

pub returns-in-None : goal.returns-in-None
returns-in-None c = no_value (value_at c.args.grid.now c.args.row c.args.col) (rw c.in-None.is at c.at.ensures)
