use Rattle.std.proofs.Common.{sym, ◌∙◌, map, arith, ⊎_elim, codes}
use Rattle.std.proofs.lemmas.List.{length-map}
use denote.Enum.Bare.{same_false}
use Rattle.clap.specs.Words.{found_of}
use Rattle.clap.specs.Walk.{rows_of}
use Rattle.clap.specs.contracts.error.kind.ErrorKind.{the_type}
use Rattle.clap.specs.declared.error.kind.ErrorKind.TheVariants as kind
use Rattle.clap.proofs.WalkLemmas.{first_value-rows}
use Rattle.words.proofs.Places.{placed, too_many}
use Rattle.words.proofs.positional.positionals.Goals as goal

pub returns-in-Ok-try_get_matches_from-clause-given : goal.returns-in-Ok-try_get_matches_from-clause-given
returns-in-Ok-try_get_matches_from-clause-given c =
    let parse = c.in-Ok-try_get_matches_from.ensures in
    let found = found_of c.in-Ok-try_get_matches_from.matches in
    placed (map (λ s. s.now) c.args.words.now) c.requires _ c.in-Ok.ensures (rows_of found) _ _ (c.get_str.ensures ∙ first_value-rows found (codes "name")) (c.get_str-in-Ok-try_get_matches_from.ensures ∙ first_value-rows found (codes "number"))
    (λ simple. (parse.matches simple).0) parse.kinds

pub returns-clause-usage : goal.returns-clause-usage
returns-clause-usage c = λ _.
    let other = same_false the_type c.kind.result kind.OutOfMemory (sym c.eq.ensures ∙ c.if-eq.false) in
    let many = too_many (map (λ s. s.now) c.args.words.now) c.requires _ c.in-Ok.ensures _ (λ free. ⊎_elim (λ memory. absurd (other (c.kind.ensures ∙ memory))) (λ among. among) (c.in-Err-try_get_matches_from.ensures.kinds free)) in
    omega (arith, many, length-map c.args.words.now (λ s. s.now))
