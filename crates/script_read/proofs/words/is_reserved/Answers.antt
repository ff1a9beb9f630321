use Rattle.std.proofs.Common.{rules, tests}
use Rattle.std.specs.Str.{bytes_eq}
use Rattle.std.proofs.lemmas.Iterator.Search.{any_from_yields_List}
use Rattle.std.proofs.lemmas.Iterator.Splits.{YieldsList-from_slice_split}
use Rattle.script_read.specs.Words.{is_space}
use Rattle.script_read.proofs.words.is_reserved.Goals as goal

pub returns : goal.returns
returns c =
    any_from_yields_List (bytes_eq c.args.text.now) _ _ _ c.any.ensures.ran
    (YieldsList-from_slice_split _ is_space _ c.split.ensures.rest c.split.ensures.done c.split.ensures.closure (λ x b q k. search (rules, tests)))
    (λ x b q k. search (rules, tests))
