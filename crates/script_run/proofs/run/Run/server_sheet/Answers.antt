use Rattle.std.proofs.Common.{◌∙◌, ap}
use Rattle.sheet_ops.specs.History.{sheet_of}
use Rattle.sheet_ops.specs.Placed.{placed}
use Rattle.script_run.specs.World.{World}
use Rattle.script_run.proofs.Looked.{server_is}
use Rattle.script_run.proofs.run.Run.server_sheet.Goals as goal

pub returns : goal.returns
returns c = c.sheet.ensures ∙ (server_is _ _ _ c.self.invariant.run ∙ ap (λ (w : World). placed (sheet_of w.size w.history)) c.self.view_is)
