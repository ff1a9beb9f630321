use Rattle.funcs.specs.Refs.{owned}
use Rattle.funcs.proofs.Filled.{row_found}
use Rattle.funcs.proofs.table.find_row.Goals as goal

pub returns : goal.returns
returns c = row_found (owned c.args.x) c.args.area.now c.column.result.now c.place_in_column.result c.column.ensures c.place_in_column.ensures.place
