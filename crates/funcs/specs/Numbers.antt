-- Numbers as values.
use Rattle.std.specs.Prelude.{ℕ, suc, ◌/◌, ◌^◌, ℤ, pos, negsuc, ◌+ℤ◌, neg_ℤ, nat_lt, if◌then◌else◌, fold, Bool, true, false, List, Result, Ok, Err}
use Rattle.ss_base.specs.declared.types.CalcErr.{CalcErr}
use Rattle.ss_base.specs.declared.types.CalcErr.TheVariants as fault
use Rattle.sheet_value.specs.declared.value.Value.{Value}
use Rattle.sheet_value.specs.declared.value.Value.TheVariants as value
use Rattle.funcs.specs.Steps.{and_then}

-- from -2^63 to 2^63 - 1
abbrev pub is_in_range : ℤ → Bool
is_in_range (pos n) = nat_lt n (2 ^ 63)
is_in_range (negsuc n) = nat_lt n (2 ^ 63)

-- a number outside is `#NUM!`
abbrev pub in_range : ℤ → Result ℤ CalcErr
in_range n = if is_in_range n then Ok n else Err fault.BadNum

abbrev pub number_value : ℤ → Result Value CalcErr
number_value n = and_then (in_range n) (λ m. Ok (value.Num m))

-- a count as a value
abbrev pub count_value : ℕ → Value
count_value n = value.Num (pos n)

-- 1 or 0
abbrev pub truth : Bool → Value
truth true = value.Num (pos 1)
truth false = value.Num (pos 0)

abbrev pub is_zero : ℤ → Bool
is_zero (pos n) = nat_lt n 1
is_zero (negsuc n) = false

abbrev pub total : List ℤ → ℤ
total ns = fold ◌+ℤ◌ (pos 0) ns

-- a divisor of 0 is `#DIV/0!`
abbrev pub divisor : ℤ → Result ℤ CalcErr
divisor n = if is_zero n then Err fault.Div0 else Ok n

-- the floor of a quotient by a natural number, and by any number
abbrev pub floor_of : ℤ → ℕ → ℤ
floor_of (pos n) d = pos (n / d)
floor_of (negsuc n) d = negsuc (n / d)

abbrev pub floor_div : ℤ → ℤ → ℤ
floor_div n (pos d) = floor_of n d
floor_div n (negsuc d) = floor_of (neg_ℤ n) (suc d)

-- a number of bytes; a negative one is `#VALUE!`
abbrev pub byte_count : ℤ → Result ℕ CalcErr
byte_count (pos n) = Ok n
byte_count (negsuc n) = Err fault.BadKind

-- a place counted from 1, counted from 0; one below 1 is `#VALUE!`
abbrev pub place : ℤ → Result ℕ CalcErr
place (pos (suc n)) = Ok n
place n = Err fault.BadKind
