use Rattle.script_run.proofs.NeverBack.{never_goes_back}
use Rattle.script_run.proofs.laws.publishing_never_goes_back.Goals as goal

pub returns : goal.returns
returns c cs = never_goes_back cs
