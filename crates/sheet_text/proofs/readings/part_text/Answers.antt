use Rattle.std.proofs.Common.{◌∙◌}
use Rattle.sheet_text.proofs.ValueTexts.{if_ok, part_same}
use Rattle.sheet_text.proofs.readings.part_text.Goals as goal

pub returns : goal.returns
returns c T number is = if_ok c.values_between.result (λ t e. e ∙ part_same T c.args.range.now c.args.part.now is c.args.name.now number c.args.length) c.values_between.ensures
