use Rattle.std.proofs.Common.{◌∙◌}
use Rattle.sheet_text.proofs.ValueTexts.{if_ok, all_same}
use Rattle.sheet_text.proofs.readings.all_text.Goals as goal

pub returns : goal.returns
returns c =
    if_ok c.value_lines.result (λ t e. e ∙ all_same c.args.grid.now c.args.length c.size-size.result c.in_ok-head.head c.in_ok-head.ensures c.size-size.ensures.size) c.value_lines.ensures
