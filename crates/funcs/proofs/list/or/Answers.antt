use Rattle.std.proofs.Common.{Ok, ap, sym, ◌∙◌}
use Rattle.funcs.specs.Lists.{numbers_given}
use Rattle.funcs.specs.Numbers.{truth}
use Rattle.funcs.proofs.Tallies.{tally-none, tally-any}
use Rattle.funcs.proofs.list.or.Goals as goal

pub returns-in-Some : goal.returns-in-Some
returns-in-Some g c =
    let b = c.truth.ensures ∙ ap truth c.any_true.ensures in
    (λ i. Ok (b i))
    ∙ sym (tally-any c.in_ok-found.found (numbers_given (g.L.Look.environment c.args.look.now) c.args.args.now) c.in-Some.field-0 c.in_ok-found.ensures (sym c.least.ensures ∙ c.in-Some.is))

pub returns-in-None : goal.returns-in-None
returns-in-None g c =
    sym (tally-none c.in_ok-found.found (numbers_given (g.L.Look.environment c.args.look.now) c.args.args.now) _ c.in_ok-found.ensures (sym c.least.ensures ∙ c.in-None.is))
