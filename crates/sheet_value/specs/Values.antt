-- What a value is as a number and as a text, and how long its text may be.
use Rattle.std.specs.Prelude.{ℕ, ℤ, pos, ◌≤◌, nat_le, if◌then◌else◌, List, [], length, Result, Ok, Err}
use Rattle.std.specs.Fmt.{signed_decimal}
use Rattle.ss_base.specs.declared.types.CalcErr.{CalcErr}
use Rattle.ss_base.specs.declared.types.CalcErr.TheVariants as fault
use Rattle.sheet_value.specs.declared.value.Value.{Value}
use Rattle.sheet_value.specs.declared.value.Value.TheVariants as value

-- an empty value is 0, and a text is no number
abbrev pub number_of : Value → Result ℤ CalcErr
number_of value.Empty = Ok (pos 0)
number_of (value.Num n) = Ok n
number_of (value.Text t) = Err fault.BadKind
number_of (value.Err e) = Err e

-- an empty value is the empty text, and a number its decimal
abbrev pub text_of : Value → Result (List ℕ) CalcErr
text_of value.Empty = Ok []
text_of (value.Num n) = Ok (signed_decimal n)
text_of (value.Text t) = Ok t
text_of (value.Err e) = Err e

-- a text has at most 127 bytes
abbrev pub IsWithinLimit : Value → Type 0
IsWithinLimit (value.Text t) = length t ≤ 127
IsWithinLimit v = Unit {0}

-- a text as a value: one that would be longer is `#VALUE!`
abbrev pub text_value : List ℕ → Value
text_value t = if nat_le (length t) 127 then value.Text t else value.Err fault.BadKind
