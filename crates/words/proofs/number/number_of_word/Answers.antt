use Rattle.std.proofs.Common.{sym, ◌∙◌}
use Rattle.words.proofs.Numerals.{numeral_parsed}
use Rattle.words.proofs.number.number_of_word.Goals as goal

pub returns-then-is_short_numeral : goal.returns-then-is_short_numeral
returns-then-is_short_numeral c = c.ok.ensures.value ∙ numeral_parsed c.args.text.now c.parse.result (sym c.if-is_short_numeral.ensures) c.parse.ensures.value.0
