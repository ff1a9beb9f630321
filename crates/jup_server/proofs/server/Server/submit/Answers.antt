use Rattle.jup_server.proofs.Causes.{admitted_next}
use Rattle.jup_server.proofs.server.Server.submit.Goals as goal

pub returns-in_err-size-clause-may : goal.returns-in_err-size-clause-may
returns-in_err-size-clause-may c H r v = absurd (admitted_next c.args.self.now.size c.args.self.now.sites H _ v _ (c.in_err-size.ensures.cause H r))
