use Rattle.sheet_value.specs.Tables.{value_at}
use Rattle.sort_keys.proofs.Keying.{if_ok, keys_many}
use Rattle.sort_keys.proofs.edit_keys.evaluated_values.Goals as goal

pub returns-clause-many : goal.returns-clause-many
returns-clause-many c =
    if_ok c.column_values.result (λ v is. keys_many (λ row. value_at c.in_ok-grid.grid row c.args.col) c.args.first c.args.last v.items is) c.column_values.ensures
