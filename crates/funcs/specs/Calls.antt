-- What a call means, by its function.
use Rattle.std.specs.Prelude.{true, false, List, Result, Err}
use Rattle.ss_base.specs.declared.types.CalcErr.{CalcErr}
use Rattle.ss_base.specs.declared.types.CalcErr.TheVariants as fault
use Rattle.sheet_value.specs.declared.value.Value.{Value}
use Rattle.sheet_value.specs.Environment.{Environment}
use Rattle.formula_tree.specs.declared.functions.Fun.{Fun}
use Rattle.formula_tree.specs.declared.functions.Fun.TheVariants as fun
use Rattle.funcs.specs.declared.arg.Arg.{Arg}
use Rattle.funcs.specs.Scalars.{abs_of, sign_of, mod_of, quotient_of, if_of, not_of, iferror_of, test_of, is_error, is_na, is_blank, is_number, is_text, na_of, truth_of, choose_of}
use Rattle.funcs.specs.Texts.{len_of, left_of, right_of, mid_of, concatenate_of, exact_of}
use Rattle.funcs.specs.Lists.{sum_of, count_of, counta_of, min_of, max_of, and_of, or_of}
use Rattle.funcs.specs.Tables.{index_of, match_of, vlookup_of, countif_of, sumif_of, sumproduct_of, rows_of, columns_of}

-- a name that no function has is `#NAME?`
abbrev pub call_of : Fun → Environment → List Arg → Result Value CalcErr
call_of fun.Sum E args = sum_of E args
call_of fun.Count E args = count_of E args
call_of fun.Counta E args = counta_of E args
call_of fun.Min E args = min_of E args
call_of fun.Max E args = max_of E args
call_of fun.And E args = and_of E args
call_of fun.Or E args = or_of E args
call_of fun.Abs E args = abs_of E args
call_of fun.Sign E args = sign_of E args
call_of fun.Mod E args = mod_of E args
call_of fun.Quotient E args = quotient_of E args
call_of fun.If E args = if_of E args
call_of fun.Not E args = not_of E args
call_of fun.Iferror E args = iferror_of E args
call_of fun.Iserror E args = test_of is_error E args
call_of fun.Isna E args = test_of is_na E args
call_of fun.Isblank E args = test_of is_blank E args
call_of fun.Isnumber E args = test_of is_number E args
call_of fun.Istext E args = test_of is_text E args
call_of fun.Na E args = na_of args
call_of fun.True E args = truth_of true args
call_of fun.False E args = truth_of false args
call_of fun.Len E args = len_of E args
call_of fun.Left E args = left_of E args
call_of fun.Right E args = right_of E args
call_of fun.Mid E args = mid_of E args
call_of fun.Concatenate E args = concatenate_of E args
call_of fun.Exact E args = exact_of E args
call_of fun.Choose E args = choose_of E args
call_of fun.Index E args = index_of E args
call_of fun.Match E args = match_of E args
call_of fun.Vlookup E args = vlookup_of E args
call_of fun.Countif E args = countif_of E args
call_of fun.Sumif E args = sumif_of E args
call_of fun.Sumproduct E args = sumproduct_of E args
call_of fun.Rows E args = rows_of E args
call_of fun.Columns E args = columns_of E args
call_of (fun.Unknown name) E args = Err fault.NoName
