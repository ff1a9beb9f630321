use Rattle.std.proofs.Common.{List, ap, sym, ◌∙◌, length, count_by}
use Rattle.sheet_value.specs.declared.value.Value.{Value}
use Rattle.funcs.specs.Counts.{counts}
use Rattle.funcs.proofs.Filled.{count-filled}
use Rattle.funcs.proofs.list.count_area.Goals as goal

pub returns-in-Some-clause-count : goal.returns-in-Some-clause-count
returns-in-Some-clause-count c =
    c.count_column.ensures.count
    ∙ (sym (count-filled c.args.counted c.in-Some.values.now (length c.args.area.now)) ∙ ap (λ (vs : List Value). count_by (λ v. counts c.args.counted v) vs) (sym c.in-Some.ensures.items))
