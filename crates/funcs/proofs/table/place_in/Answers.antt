use Rattle.std.proofs.Common.{List, ap, sym, ◌∙◌, length}
use Rattle.std.specs.List.{position_from}
use Rattle.sheet_value.specs.declared.value.Value.{Value}
use Rattle.funcs.specs.Areas.{same}
use Rattle.funcs.specs.Refs.{owned}
use Rattle.funcs.proofs.Filled.{position-filled}
use Rattle.funcs.proofs.table.place_in.Goals as goal

pub returns-in-Some-clause-place : goal.returns-in-Some-clause-place
returns-in-Some-clause-place c =
    c.place_in_column.ensures.place
    ∙ (sym (position-filled (owned c.args.x) 0 c.in-Some.values.now (length c.args.area.now))
    ∙ ap (λ (vs : List Value). position_from (λ v. same v (owned c.args.x)) 0 vs) (sym c.in-Some.ensures.items))
