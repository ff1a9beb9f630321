use Rattle.std.proofs.Common.{subst, sym}
use Rattle.std.specs.Prelude.{IfNone}
use Rattle.std.specs.Str.{IsUtf8}
use Rattle.words.specs.Positionals.{IsForeign}
use Rattle.words.proofs.Numerals.{not_a_text, where_failed}
use Rattle.words.proofs.positional.plain_text.Goals as goal

pub returns-clause-foreign : goal.returns-clause-foreign
returns-clause-foreign c =
    subst (λ o. IfNone o (IsForeign c.args.word.now)) (sym c.ok.ensures.value)
    (where_failed c.from_utf8.result _ _ _ c.from_utf8.ensures.cases (λ e h. not_a_text c.args.word.now (λ text. h.0 (subst IsUtf8 (sym c.bytes.ensures) text))))
