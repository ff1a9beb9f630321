use Rattle.std.proofs.Common.{◌≡◌, ap, sym, ◌∙◌, arith}
use Rattle.std.proofs.lemmas.Int.{ints}
use mir.Val.{to_z, of_z}
use mir.Syntax.{w128}
use Rattle.funcs.specs.Lists.{numbers_given}
use Rattle.funcs.specs.Numbers.{number_value}
use Rattle.funcs.proofs.Tallies.{tally-total}
use Rattle.funcs.proofs.list.sum.Goals as goal

pub returns : goal.returns
returns g c =
    let same : to_z w128 (of_z w128 c.total.result) ≡ c.total.result = omega (arith, ints) in
    c.number_value.ensures
    ∙ (ap number_value (same ∙ c.total.ensures)
    ∙ sym (tally-total c.in_ok-found.found (numbers_given (g.L.Look.environment c.args.look.now) c.args.args.now) c.in_ok-found.ensures))
