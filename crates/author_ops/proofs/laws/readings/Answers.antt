use Rattle.formula_read.proofs.Readings.{reading, reading-is}
use Rattle.author_ops.proofs.Formulas.{reads_once}
use Rattle.author_ops.proofs.laws.readings.Goals as goal

pub returns-clause-grammar : goal.returns-clause-grammar
returns-clause-grammar c = reading-is

pub returns-clause-one : goal.returns-clause-one
returns-clause-one c bs r h = reads_once bs r (reading bs) h (reading-is bs)
