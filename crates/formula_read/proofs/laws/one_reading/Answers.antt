use Rattle.formula_read.proofs.Spellings.{one_formula}
use Rattle.formula_read.proofs.laws.one_reading.Goals as goal

pub returns : goal.returns
returns c = one_formula
