use Rattle.jup_client.proofs.Longer.{may_come}
use Rattle.jup_client.proofs.laws.next_may.Goals as goal

pub returns : goal.returns
returns c = may_come
