use Rattle.formula_read.proofs.Parted.{parted_next}
use Rattle.formula_read.proofs.laws.next_tokens.Goals as goal

pub returns : goal.returns
returns c = parted_next
