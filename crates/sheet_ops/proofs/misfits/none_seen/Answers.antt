use Rattle.sheet_ops.proofs.FirstMisfit.{none_marked}
use Rattle.sheet_ops.proofs.misfits.none_seen.Goals as goal

pub returns-clause-none : goal.returns-clause-none
returns-clause-none c = none_marked 16000
