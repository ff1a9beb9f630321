-- What operators give.
use Rattle.std.specs.Prelude.{ℤ, pos, negsuc, ◌+ℤ◌, ◌-ℤ◌, ◌*ℤ◌, neg_ℤ, int_div, int_rem, if◌then◌else◌, Bool, false, ◌++◌, Result, Ok, Err}
use Rattle.std.specs.Int.{int_pow}
use Rattle.std.specs.Ordering.{is_eq, is_ne, is_lt, is_le, is_gt, is_ge}
use Rattle.std.specs.declared.cmp.Ordering.{Ordering}
use Rattle.ss_base.specs.declared.types.CalcErr.{CalcErr}
use Rattle.ss_base.specs.declared.types.CalcErr.TheVariants as fault
use Rattle.sheet_value.specs.declared.value.Value.{Value}
use Rattle.sheet_value.specs.Values.{number_of, text_of, text_value}
use Rattle.sheet_value.specs.Order.{comparison}
use Rattle.formula_tree.specs.declared.operators.PreOp.{PreOp}
use Rattle.formula_tree.specs.declared.operators.PreOp.TheVariants.{Plus, Minus}
use Rattle.formula_tree.specs.declared.operators.BinOp.{BinOp}
use Rattle.formula_tree.specs.declared.operators.BinOp.TheVariants.{Pow, Mul, Div, Add, Sub, Join, Eq, Ne, Lt, Le, Gt, Ge}
use Rattle.funcs.specs.Steps.{and_then}
use Rattle.funcs.specs.Numbers.{number_value, truth, is_zero, divisor}

abbrev pub signed : PreOp → ℤ → ℤ
signed Plus n = n
signed Minus n = neg_ℤ n

abbrev pub prefixed : PreOp → Value → Result Value CalcErr
prefixed op v = and_then (number_of v) (λ n. number_value (signed op n))

-- both operands as numbers, the left one first
abbrev pub both_numbers : Value → Value → Result (ℤ × ℤ) CalcErr
both_numbers a b = and_then (number_of a) (λ m. and_then (number_of b) (λ n. Ok (m, n)))

abbrev pub sum : Value → Value → Result Value CalcErr
sum a b = and_then (both_numbers a b) (λ p. number_value (p.0 +ℤ p.1))

abbrev pub difference : Value → Value → Result Value CalcErr
difference a b = and_then (both_numbers a b) (λ p. number_value (p.0 -ℤ p.1))

abbrev pub product : Value → Value → Result Value CalcErr
product a b = and_then (both_numbers a b) (λ p. number_value (p.0 *ℤ p.1))

-- a quotient that isn't whole is `#NUM!`
abbrev pub whole_quotient : ℤ → ℤ → Result Value CalcErr
whole_quotient m d = if is_zero (int_rem m d) then number_value (int_div m d) else Err fault.BadNum

abbrev pub quotient : Value → Value → Result Value CalcErr
quotient a b = and_then (both_numbers a b) (λ p. and_then (divisor p.1) (λ d. whole_quotient p.0 d))

-- a negative exponent is `#NUM!`, and any number to the power 0 is 1
abbrev pub power_of : ℤ → ℤ → Result Value CalcErr
power_of m (pos n) = number_value (int_pow m n)
power_of m (negsuc n) = Err fault.BadNum

abbrev pub power : Value → Value → Result Value CalcErr
power a b = and_then (both_numbers a b) (λ p. power_of p.0 p.1)

-- both operands as texts, one behind the other
abbrev pub joined : Value → Value → Result Value CalcErr
joined a b = and_then (text_of a) (λ s. and_then (text_of b) (λ t. Ok (text_value (s ++ t))))

abbrev pub holds : BinOp → Ordering → Bool
holds Eq order = is_eq order
holds Ne order = is_ne order
holds Lt order = is_lt order
holds Le order = is_le order
holds Gt order = is_gt order
holds Ge order = is_ge order
holds op order = false

-- the leftmost error, or else 1 where the comparison holds and 0 where it doesn't
abbrev pub compared : BinOp → Value → Value → Result Value CalcErr
compared op a b = and_then (comparison a b) (λ order. Ok (truth (holds op order)))

abbrev pub combined : BinOp → Value → Value → Result Value CalcErr
combined Pow a b = power a b
combined Mul a b = product a b
combined Div a b = quotient a b
combined Add a b = sum a b
combined Sub a b = difference a b
combined Join a b = joined a b
combined op a b = compared op a b
