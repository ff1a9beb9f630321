use Rattle.formula_read.proofs.Readings.{every_text, reads_once}
use Rattle.formula_read.proofs.laws.text_readings.Goals as goal

pub returns-clause-some : goal.returns-clause-some
returns-clause-some c = every_text

pub returns-clause-one : goal.returns-clause-one
returns-clause-one c = reads_once
