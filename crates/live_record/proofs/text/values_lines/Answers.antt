use Rattle.std.proofs.Common.{sym, ◌∙◌}
use Rattle.sheet_ops.specs.History.{sheet_of}
use Rattle.sheet_text.specs.Values.{all_text}
use Rattle.sheet_text.proofs.ValueTexts.{if_ok}
use Rattle.live_record.proofs.Printed.{server_formed}
use Rattle.live_record.proofs.text.values_lines.Goals as goal

pub returns : goal.returns
returns c H represents =
    let server = c.args.server.now in
    let values = c.in_ok-values.ensures (sheet_of server.size H) (server_formed server H represents) (sym (c.sheet.ensures ∙ represents.sheet)) in
    if_ok c.all_text.result (λ t is. is ∙ (λ i. all_text ((c.count.ensures ∙ represents.count) i) (values i))) c.all_text.ensures
