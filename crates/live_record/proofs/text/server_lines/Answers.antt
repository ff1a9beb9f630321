use Rattle.std.proofs.Common.{◌∙◌}
use Rattle.sheet_text.specs.Shown.{shown_placed}
use Rattle.sheet_text.specs.Texts.{server_head_text, sheet_text}
use Rattle.sheet_text.proofs.ValueTexts.{if_ok}
use Rattle.live_record.proofs.Printed.{server_shown}
use Rattle.live_record.proofs.text.server_lines.Goals as goal

pub returns : goal.returns
returns c H represents =
    if_ok c.sheet_lines.result (λ t is.
    is ∙ ((λ i. sheet_text (c.in_ok-head.ensures i) (shown_placed (c.sheet-2.ensures i)))
    ∙ ((λ i. sheet_text (server_head_text (c.count.ensures i) (shown_placed (c.sheet.ensures i))) (shown_placed c.args.server.now.sheet))
    ∙ server_shown c.args.server.now H represents))) c.sheet_lines.ensures
