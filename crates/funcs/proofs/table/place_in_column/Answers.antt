use Rattle.funcs.specs.Refs.{owned}
use Rattle.funcs.proofs.Filled.{nowhere, unfound}
use Rattle.funcs.proofs.table.place_in_column.Goals as goal

pub returns-in-Empty-clause-place : goal.returns-in-Empty-clause-place
returns-in-Empty-clause-place c = nowhere (owned c.args.x) 0 c.args.values.now (unfound c.args.x c.in-Empty.is)
