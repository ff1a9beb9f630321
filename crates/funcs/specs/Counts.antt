-- What is counted.
use Rattle.std.specs.Prelude.{not, count_by, Bool, List, Result, Ok}
use Rattle.ss_base.specs.declared.types.CalcErr.{CalcErr}
use Rattle.sheet_value.specs.declared.value.Value.{Value}
use Rattle.sheet_value.specs.Environment.{Environment}
use Rattle.funcs.specs.declared.arg.Arg.{Arg}
use Rattle.funcs.specs.declared.list.Counted.{Counted}
use Rattle.funcs.specs.declared.list.Counted.TheVariants as counted
use Rattle.funcs.specs.Refs.{owned}
use Rattle.funcs.specs.Steps.{and_then}
use Rattle.funcs.specs.Numbers.{count_value}
use Rattle.funcs.specs.Args.{one_or_more}
use Rattle.funcs.specs.Areas.{item_value, items_of_all, same}
use Rattle.funcs.specs.Scalars.{is_number, is_blank}

abbrev pub counts : Counted → Value → Bool
counts counted.Numbers v = is_number v
counts counted.Filled v = not (is_blank v)
counts (counted.Same x) v = same v (owned x)

-- how many items of one or more arguments
abbrev pub counted_of : Counted → Environment → List Arg → Result Value CalcErr
counted_of c E args = and_then (one_or_more args) (λ given. Ok (count_value (count_by (λ i. counts c (item_value i)) (items_of_all E given))))
