use Rattle.script_read.specs.Script.{script}
use Rattle.sheetshare.proofs.play.play.Goals as goal

pub returns-in-Ok-clause-published : goal.returns-in-Ok-clause-published
returns-in-Ok-clause-published g c bytes = c.publishing_never_goes_back.ensures (script bytes).commands

pub returns-in-Err-clause-published : goal.returns-in-Err-clause-published
returns-in-Err-clause-published g c bytes = c.publishing_never_goes_back.ensures (script bytes).commands
