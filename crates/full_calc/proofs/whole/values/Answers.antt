use Rattle.cell_walk.proofs.White.{if_ok}
use Rattle.sheet_grid.specs.Values.{placed_in}
use Rattle.full_calc.proofs.Results.{computed_values}
use Rattle.full_calc.proofs.whole.values.Goals as goal

pub returns-clause-values : goal.returns-clause-values
returns-clause-values g c = if_ok c.computed.result c.computed.ensures.computed (λ T h X w e. computed_values (placed_in c.args.sheet.now) T h X w e)
