use Rattle.std.proofs.Common.{List, ℤ, Result, ap, sym, ◌∙◌}
use Rattle.ss_base.specs.declared.types.CalcErr.{CalcErr}
use Rattle.funcs.specs.Tallies.{with_numbers}
use Rattle.funcs.proofs.Found.{items-area}
use Rattle.funcs.proofs.list.with_arg.Goals as goal

pub returns-in-Ok : goal.returns-in-Ok
returns-in-Ok g c = record {
  numbers = c.with_area.ensures.numbers ∙ ap (λ (r : Result (List ℤ) CalcErr). with_numbers c.args.found r)
      (sym (items-area (g.L.Look.environment c.args.look.now) c.args.arg.now c.in-Ok.area (sym c.in-Ok.is ∙ c.of.ensures)));
  few = c.with_area.ensures.few;
}
