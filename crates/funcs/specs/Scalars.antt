-- The functions of numbers and single values.
use Rattle.std.specs.Prelude.{ℤ, pos, ◌-ℤ◌, ◌*ℤ◌, unsigned_abs, int_div, if◌then◌else◌, ok_or, slice_get, Bool, true, false, List, Option, None, Some, Result, Ok, Err}
use Rattle.std.specs.Int.{int_signum}
use Rattle.ss_base.specs.declared.types.CalcErr.{CalcErr}
use Rattle.ss_base.specs.declared.types.CalcErr.TheVariants as fault
use Rattle.sheet_value.specs.declared.value.Value.{Value}
use Rattle.sheet_value.specs.declared.value.Value.TheVariants as value
use Rattle.sheet_value.specs.Environment.{Environment}
use Rattle.funcs.specs.declared.arg.Arg.{Arg}
use Rattle.funcs.specs.Steps.{and_then}
use Rattle.funcs.specs.Numbers.{number_value, truth, is_zero, divisor, floor_div, place}
use Rattle.funcs.specs.Args.{none, one, two, two_or_three, two_or_more, value_of_argument, number}

-- ABS: the absolute value
abbrev pub abs_of : Environment → List Arg → Result Value CalcErr
abs_of E args = and_then (one args) (λ a. and_then (number E a) (λ n. number_value (pos (unsigned_abs n))))

-- SIGN: -1, 0 or 1
abbrev pub sign_of : Environment → List Arg → Result Value CalcErr
sign_of E args = and_then (one args) (λ a. and_then (number E a) (λ n. Ok (value.Num (int_signum n))))

-- two numbers, of which the second isn't 0
abbrev pub dividend_and_divisor : Environment → List Arg → Result (ℤ × ℤ) CalcErr
dividend_and_divisor E args =
    and_then (two args) (λ p. and_then (number E p.0) (λ a. and_then (number E p.1) (λ b. and_then (divisor b) (λ d. Ok (a, d)))))

-- MOD: what is left of a by the floor of a/b
abbrev pub mod_of : Environment → List Arg → Result Value CalcErr
mod_of E args = and_then (dividend_and_divisor E args) (λ p. number_value (p.0 -ℤ p.1 *ℤ floor_div p.0 p.1))

-- QUOTIENT: a/b truncated towards 0
abbrev pub quotient_of : Environment → List Arg → Result Value CalcErr
quotient_of E args = and_then (dividend_and_divisor E args) (λ p. number_value (int_div p.0 p.1))

-- IF: x where c isn't 0, else y, or 0 without y
abbrev pub value_or_zero : Environment → Option Arg → Value
value_or_zero E None = value.Num (pos 0)
value_or_zero E (Some a) = value_of_argument E a

abbrev pub if_of : Environment → List Arg → Result Value CalcErr
if_of E args = and_then (two_or_three args) (λ p. and_then (number E p.0) (λ c. Ok (if is_zero c then value_or_zero E p.2 else value_of_argument E p.1)))

-- NOT: 1 for 0, else 0
abbrev pub not_of : Environment → List Arg → Result Value CalcErr
not_of E args = and_then (one args) (λ a. and_then (number E a) (λ n. Ok (truth (is_zero n))))

-- IFERROR: y where x is an error, else x
abbrev pub is_error : Value → Bool
is_error (value.Err e) = true
is_error v = false

abbrev pub iferror_of : Environment → List Arg → Result Value CalcErr
iferror_of E args = and_then (two args) (λ p. Ok (if is_error (value_of_argument E p.0) then value_of_argument E p.1 else value_of_argument E p.0))

-- ISERROR and the like: 1 where the value passes a test, else 0; an error is no result here
abbrev pub is_na : Value → Bool
is_na (value.Err fault.Na) = true
is_na v = false

abbrev pub is_blank : Value → Bool
is_blank value.Empty = true
is_blank v = false

abbrev pub is_number : Value → Bool
is_number (value.Num n) = true
is_number v = false

abbrev pub is_text : Value → Bool
is_text (value.Text t) = true
is_text v = false

abbrev pub test_of : (Value → Bool) → Environment → List Arg → Result Value CalcErr
test_of test E args = and_then (one args) (λ a. Ok (truth (test (value_of_argument E a))))

-- NA, TRUE, FALSE
abbrev pub na_of : List Arg → Result Value CalcErr
na_of args = and_then (none args) (λ _. Err fault.Na)

abbrev pub truth_of : Bool → List Arg → Result Value CalcErr
truth_of b args = and_then (none args) (λ _. Ok (truth b))

-- CHOOSE: the i-th value; no such one is `#VALUE!`
abbrev pub choose_of : Environment → List Arg → Result Value CalcErr
choose_of E args =
    and_then (two_or_more args) (λ p. and_then (number E p.0) (λ i. and_then (place i) (λ k. and_then (ok_or (slice_get p.1 k) fault.BadKind) (λ a. Ok (value_of_argument E a)))))
