use Rattle.std.proofs.Common.{◌≡◌, ℤ, pos, Option, Ok, ap, sym, ◌∙◌, arith}
use Rattle.std.specs.Prelude.{unwrap_or}
use Rattle.std.proofs.lemmas.Int.{ints}
use mir.Val.{to_z, of_z}
use mir.Syntax.{w64}
use Rattle.sheet_value.specs.declared.value.Value.TheVariants as value
use Rattle.funcs.specs.Lists.{numbers_given}
use Rattle.funcs.proofs.Tallies.{tally-greatest}
use Rattle.funcs.proofs.list.max.Goals as goal

pub returns : goal.returns
returns g c =
    let same : to_z w64 (of_z w64 c.unwrap_or.result) ≡ c.unwrap_or.result = omega (arith, ints) in
    let n = same ∙ (c.unwrap_or.ensures ∙ ap (λ (o : Option ℤ). unwrap_or o (pos 0)) c.greatest.ensures) in
    (λ i. Ok (value.Num (n i)))
    ∙ sym (tally-greatest c.in_ok-found.found (numbers_given (g.L.Look.environment c.args.look.now) c.args.args.now) c.in_ok-found.ensures)
