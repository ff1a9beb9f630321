use Rattle.std.proofs.Common.{◌∙◌, sym}
use Rattle.formula_read.proofs.Turns.{text_leaf, range_leaf, no_range}
use Rattle.formula_read.proofs.leaves.leaf.Goals as goal

pub returns-in_ok-text-in-Text : goal.returns-in_ok-text-in-Text
returns-in_ok-text-in-Text c t h = text_leaf t c.args.bytes.now c.in_ok-text-in-Text.text (h.0 ∙ c.in-Text.is, h.1) c.in_ok-text-in-Text.ensures

pub returns-in-Some-read_range : goal.returns-in-Some-read_range
returns-in-Some-read_range c t h = range_leaf t c.args.bytes.now c.in-Some-read_range.range (h.0 ∙ c.in-Range.is, h.1) (sym c.in-Some-read_range.ensures.value)

pub returns-in-None-read_range : goal.returns-in-None-read_range
returns-in-None-read_range c t h = no_range t c.args.bytes.now (h.0 ∙ c.in-Range.is, h.1) (sym c.in-None-read_range.ensures.value)
