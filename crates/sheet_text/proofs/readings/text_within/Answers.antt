use Rattle.std.proofs.Common.{◌∙◌}
use Rattle.sheet_text.proofs.ValueTexts.{if_ok, range_same}
use Rattle.sheet_text.proofs.readings.text_within.Goals as goal

pub returns : goal.returns
returns c number = if_ok c.values_between.result (λ t e. e ∙ range_same number c.args.name.now c.args.range.now c.args.length c.args.grid.now c.requires.last_row c.requires.last_col) c.values_between.ensures
