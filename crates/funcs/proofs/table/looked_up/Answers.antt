use Rattle.std.proofs.Common.{◌∙◌}
use Rattle.funcs.specs.Refs.{owned}
use Rattle.funcs.proofs.Walks.{found_there}
use Rattle.funcs.proofs.table.looked_up.Goals as goal

pub returns-in-Some : goal.returns-in-Some
returns-in-Some c = c.get.ensures ∙ found_there c.args.area.now c.in-Some.row c.args.col (owned c.args.x) c.in-Some.ensures.0 c.in-Some.ensures.1
