use Rattle.sheet_text.proofs.Within.{intent_within, effect_within}
use Rattle.sheet_text.proofs.laws.what_fits_is_within.Goals as goal

pub returns-clause-intent : goal.returns-clause-intent
returns-clause-intent c size most op rows cols = intent_within size most rows cols op

pub returns-clause-effect : goal.returns-clause-effect
returns-clause-effect c size most e rows cols = effect_within size most rows cols e
