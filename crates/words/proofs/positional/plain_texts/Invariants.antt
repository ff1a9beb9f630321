use Rattle.std.proofs.Common.{◌≡◌, true, map, take}
use Rattle.std.specs.List.{list_all}
use Rattle.words.specs.Positionals.{is_no_option}
use Rattle.words.proofs.positional.plain_texts.Given as goal

abbrev pub invariant-loop-word : goal.invariant-loop-word
invariant-loop-word l = record {
  texts : map (λ s. s.now) l.texts.items ≡ take l.word-index l.words;
  plain : list_all is_no_option (take l.word-index l.words) ≡ true;
}
