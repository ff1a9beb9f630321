use Rattle.formula_read.proofs.Bytes.{front_alive}
use Rattle.formula_read.proofs.Fronts.{alive_front}
use Rattle.formula_read.proofs.laws.text_fronts.Goals as goal

pub returns : goal.returns
returns c bs = (front_alive bs, alive_front bs)
