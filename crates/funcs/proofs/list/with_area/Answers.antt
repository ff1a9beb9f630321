use Rattle.std.proofs.Common.{List, ℤ, Result, ap, sym, ◌∙◌, length}
use Rattle.ss_base.specs.declared.types.CalcErr.{CalcErr}
use Rattle.sheet_value.specs.declared.value.Value.{Value}
use Rattle.funcs.specs.Areas.{sheet_numbers}
use Rattle.funcs.specs.Tallies.{with_numbers}
use Rattle.funcs.proofs.Filled.{numbers-filled}
use Rattle.funcs.proofs.list.with_area.Goals as goal

pub returns-in-Some-clause-numbers : goal.returns-in-Some-clause-numbers
returns-in-Some-clause-numbers c =
    c.with_column.ensures.numbers
    ∙ ap (λ (r : Result (List ℤ) CalcErr). with_numbers c.args.found r)
    (sym (numbers-filled c.in-Some.values.now (length c.args.area.now)) ∙ ap (λ (vs : List Value). sheet_numbers vs) (sym c.in-Some.ensures.items))
