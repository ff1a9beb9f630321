use Rattle.sheet_ops.proofs.Published.{own_fits_again, effect_fits_again}
use Rattle.sheet_ops.proofs.laws.pairs_fit_again.Goals as goal

pub returns-clause-own : goal.returns-clause-own
returns-clause-own c = own_fits_again

pub returns-clause-other : goal.returns-clause-other
returns-clause-other c = effect_fits_again
