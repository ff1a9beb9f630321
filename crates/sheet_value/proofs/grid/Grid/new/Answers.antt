use Rattle.std.proofs.Common.{◌∙◌, ap, sym, List}
use Rattle.sheet_value.specs.declared.value.Value.{Value}
use Rattle.sheet_value.specs.Tables.{table_of}
use Rattle.sheet_value.proofs.Columns.{opened}
use Rattle.sheet_value.proofs.grid.Grid.new.Goals as goal

pub returns : goal.returns
returns c = ap (λ (columns : List (List Value)). table_of c.args.size columns) c.in_ok-columns.ensures ∙ sym (opened c.args.size)
