use Rattle.sheet_text.proofs.Within.{entries_within, effects_within}
use Rattle.sheet_text.proofs.laws.histories_are_within.Goals as goal

pub returns-clause-entries : goal.returns-clause-entries
returns-clause-entries c size sites H rows cols few = entries_within size sites rows cols few H

pub returns-clause-effects : goal.returns-clause-effects
returns-clause-effects c size sites H rows cols few = effects_within size sites rows cols few H
