use Rattle.name_model.proofs.Lifted.{placed-lifted, lifted-formed, lifted-new}
use Rattle.name_model.proofs.laws.lifted_sheets.Goals as goal

pub returns : goal.returns
returns c = record { placed = placed-lifted; formed = lifted-formed; new = lifted-new }
