use Rattle.jup_client.proofs.Longer.{goes_on}
use Rattle.jup_client.proofs.laws.history_goes_on.Goals as goal

pub returns : goal.returns
returns c = goes_on
