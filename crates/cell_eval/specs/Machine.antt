-- What the steps of code do to a stack of arguments, whose uppermost stands first.
use Rattle.std.specs.Prelude.{ℕ, ℤ, zero, suc, ◌^◌, nat_le, nat_lt, ◌&&◌, if◌then◌else◌, List, [], ◌∷◌, length, take, drop, reverse, Option, None, Some, Result, Ok, Err}
use Rattle.std.specs.Option.{option_and_then}
use Rattle.ss_base.specs.declared.types.CalcErr.{CalcErr}
use Rattle.sheet_value.specs.declared.value.Value.TheVariants as value
use Rattle.sheet_value.specs.Values.{text_value}
use Rattle.sheet_value.specs.Environment.{Environment}
use Rattle.formula_code.specs.declared.step.Step.{Step}
use Rattle.formula_code.specs.declared.step.Step.TheVariants as step
use Rattle.funcs.specs.declared.arg.Arg.{Arg}
use Rattle.funcs.specs.declared.arg.Arg.TheVariants as arg
use Rattle.funcs.specs.Args.{value_of_argument, number}
use Rattle.funcs.specs.Calls.{call_of}
use Rattle.funcs.specs.Numbers.{is_zero}
use Rattle.funcs.specs.Steps.{answer}
use Rattle.cell_eval.specs.Operators.{prefixed, combined}

-- how many steps are passed over after a test, n at 0 and m at an error, and the stack: an error stays on it
abbrev pub tested : ℕ → ℕ → Result ℤ CalcErr → List Arg → ℕ × List Arg
tested n m (Err e) stack = (m, arg.One (value.Err e) ∷ stack)
tested n m (Ok k) stack = (if is_zero k then n else 0, stack)

-- How many steps are passed over after one step, and the stack. There is none where the stack lacks an argument, and for
-- a call of more arguments than any formula has.
abbrev pub after_step : Environment → Step → List Arg → Option (ℕ × List Arg)
after_step E (step.Num n) stack = Some (0, arg.One (value.Num n) ∷ stack)
after_step E (step.Text t) stack = Some (0, arg.One (text_value t) ∷ stack)
after_step E (step.Fault e) stack = Some (0, arg.One (value.Err e) ∷ stack)
after_step E (step.Cell s) stack = Some (0, arg.At s ∷ stack)
after_step E (step.Range s) stack = Some (0, arg.Over s ∷ stack)
after_step E (step.Pre op) [] = None
after_step E (step.Pre op) (a ∷ stack) = Some (0, arg.One (answer (prefixed op (value_of_argument E a))) ∷ stack)
after_step E (step.Bin op) [] = None
after_step E (step.Bin op) (b ∷ []) = None
after_step E (step.Bin op) (b ∷ a ∷ stack) = Some (0, arg.One (answer (combined op (value_of_argument E a) (value_of_argument E b))) ∷ stack)
after_step E (step.Call f n) stack =
    if nat_le n (length stack) && nat_lt n (2 ^ 24)
    then Some (0, arg.One (answer (call_of f E (reverse (take n stack)))) ∷ drop n stack)
    else None
after_step E (step.Test n m) [] = None
after_step E (step.Test n m) (a ∷ stack) = Some (tested n m (number E a) stack)
after_step E (step.Skip n) [] = None
after_step E (step.Skip n) (a ∷ stack) = Some (n, arg.One (value_of_argument E a) ∷ stack)

-- the stack after all steps, of which the first so many are passed over
abbrev pub run : Environment → ℕ → List Step → List Arg → Option (List Arg)
run E passed [] stack = Some stack
run E (suc passed) (x ∷ steps) stack = run E passed steps stack
run E zero (x ∷ steps) stack = option_and_then (λ next. run E next.0 steps next.1) (after_step E x stack)
