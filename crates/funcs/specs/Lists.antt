-- The functions of lists of items.
use Rattle.std.specs.Prelude.{ℤ, pos, not, fold, count_by, List, [], ◌∷◌, Result, Ok}
use Rattle.std.specs.List.{list_any, list_all}
use Rattle.std.specs.Int.{int_min, int_max}
use Rattle.ss_base.specs.declared.types.CalcErr.{CalcErr}
use Rattle.sheet_value.specs.declared.value.Value.{Value}
use Rattle.sheet_value.specs.declared.value.Value.TheVariants as value
use Rattle.sheet_value.specs.Environment.{Environment}
use Rattle.funcs.specs.declared.arg.Arg.{Arg}
use Rattle.funcs.specs.Steps.{and_then}
use Rattle.funcs.specs.Numbers.{number_value, count_value, truth, is_zero, total}
use Rattle.funcs.specs.Args.{one_or_more}
use Rattle.funcs.specs.Areas.{item_value, items_of_all, numbers}
use Rattle.funcs.specs.Scalars.{is_number, is_blank}

-- the numbers of a list of one or more arguments
abbrev pub numbers_given : Environment → List Arg → Result (List ℤ) CalcErr
numbers_given E args = and_then (one_or_more args) (λ given. numbers E given)

-- SUM: the exact total
abbrev pub sum_of : Environment → List Arg → Result Value CalcErr
sum_of E args = and_then (numbers_given E args) (λ ns. number_value (total ns))

-- COUNT: how many items are numbers; errors are passed over
abbrev pub count_of : Environment → List Arg → Result Value CalcErr
count_of E args = and_then (one_or_more args) (λ given. Ok (count_value (count_by (λ i. is_number (item_value i)) (items_of_all E given))))

-- COUNTA: how many items aren't empty; errors count
abbrev pub counta_of : Environment → List Arg → Result Value CalcErr
counta_of E args = and_then (one_or_more args) (λ given. Ok (count_value (count_by (λ i. not (is_blank (item_value i))) (items_of_all E given))))

-- MIN and MAX: the least or greatest number, 0 where there are none
abbrev pub least : List ℤ → ℤ
least [] = pos 0
least (n ∷ ns) = fold int_min n ns

abbrev pub greatest : List ℤ → ℤ
greatest [] = pos 0
greatest (n ∷ ns) = fold int_max n ns

abbrev pub min_of : Environment → List Arg → Result Value CalcErr
min_of E args = and_then (numbers_given E args) (λ ns. Ok (value.Num (least ns)))

abbrev pub max_of : Environment → List Arg → Result Value CalcErr
max_of E args = and_then (numbers_given E args) (λ ns. Ok (value.Num (greatest ns)))

-- AND and OR: 1 where all, or one, of the numbers isn't 0, else 0; `#VALUE!` where there are none
abbrev pub and_of : Environment → List Arg → Result Value CalcErr
and_of E args = and_then (numbers_given E args) (λ ns. and_then (one_or_more ns) (λ some. Ok (truth (list_all (λ n. not (is_zero n)) some))))

abbrev pub or_of : Environment → List Arg → Result Value CalcErr
or_of E args = and_then (numbers_given E args) (λ ns. and_then (one_or_more ns) (λ some. Ok (truth (list_any (λ n. not (is_zero n)) some))))
