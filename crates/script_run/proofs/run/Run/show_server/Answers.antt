use Rattle.std.proofs.Common.{◌∙◌, ap}
use Rattle.sheet_text.specs.Shown.{shown_placed}
use Rattle.sheet_text.specs.Texts.{sheet_text, server_head_text}
use Rattle.script_run.specs.World.{World}
use Rattle.script_run.specs.Transcript.{server_text}
use Rattle.script_run.proofs.Outcomes.{if_ok}
use Rattle.script_run.proofs.Edited.{shown_server}
use Rattle.script_run.proofs.run.Run.show_server.Goals as goal

pub returns : goal.returns
returns c =
    if_ok c.sheet_lines.result (λ t is.
    is ∙ ((λ i. sheet_text (c.in_ok-head.ensures i) (shown_placed (c.sheet-2.ensures i)))
    ∙ ((λ i. sheet_text (server_head_text (c.count.ensures i) (shown_placed (c.sheet.ensures i))) (shown_placed c.self.inside.server.sheet))
    ∙ (shown_server _ _ _ c.self.invariant.run ∙ ap (λ (w : World). server_text w) c.self.view_is)))) c.sheet_lines.ensures
