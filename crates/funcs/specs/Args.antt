-- How many arguments a call has, and what each is taken for.
use Rattle.std.specs.Prelude.{ℕ, ℤ, pos, if◌then◌else◌, is_some, unwrap_or, List, [], ◌∷◌, Option, None, Some, Result, Ok, Err}
use Rattle.ss_base.specs.declared.types.CalcErr.{CalcErr}
use Rattle.ss_base.specs.declared.types.CalcErr.TheVariants as fault
use Rattle.sheet_value.specs.declared.value.Value.{Value}
use Rattle.sheet_value.specs.declared.value.Value.TheVariants as value
use Rattle.sheet_value.specs.Values.{number_of, text_of, IsWithinLimit}
use Rattle.sheet_value.specs.Environment.{Environment, cell_value, range_shape}
use Rattle.funcs.specs.declared.arg.Arg.{Arg}
use Rattle.funcs.specs.declared.arg.Arg.TheVariants as arg
use Rattle.funcs.specs.Steps.{and_then}

-- another number of arguments is `#VALUE!`
abbrev pub none : {A : Type 0} → List A → Result (Unit {0}) CalcErr
none [] = Ok tt
none xs = Err fault.BadKind

abbrev pub one : {A : Type 0} → List A → Result A CalcErr
one (x ∷ []) = Ok x
one xs = Err fault.BadKind

abbrev pub two : {A : Type 0} → List A → Result (A × A) CalcErr
two (x ∷ y ∷ []) = Ok (x, y)
two xs = Err fault.BadKind

abbrev pub three : {A : Type 0} → List A → Result (A × A × A) CalcErr
three (x ∷ y ∷ z ∷ []) = Ok (x, y, z)
three xs = Err fault.BadKind

abbrev pub four : {A : Type 0} → List A → Result (A × A × A × A) CalcErr
four (x ∷ y ∷ z ∷ w ∷ []) = Ok (x, y, z, w)
four xs = Err fault.BadKind

abbrev pub one_or_two : {A : Type 0} → List A → Result (A × Option A) CalcErr
one_or_two (x ∷ []) = Ok (x, None)
one_or_two (x ∷ y ∷ []) = Ok (x, Some y)
one_or_two xs = Err fault.BadKind

abbrev pub two_or_three : {A : Type 0} → List A → Result (A × A × Option A) CalcErr
two_or_three (x ∷ y ∷ []) = Ok (x, y, None)
two_or_three (x ∷ y ∷ z ∷ []) = Ok (x, y, Some z)
two_or_three xs = Err fault.BadKind

abbrev pub one_or_more : {A : Type 0} → List A → Result (List A) CalcErr
one_or_more [] = Err fault.BadKind
one_or_more xs = Ok xs

abbrev pub two_or_more : {A : Type 0} → List A → Result (A × List A) CalcErr
two_or_more (x ∷ y ∷ xs) = Ok (x, y ∷ xs)
two_or_more xs = Err fault.BadKind

-- an argument as a value: a range isn't one, and is `#VALUE!`, or `#REF!` where it is lost as a cell is
abbrev pub value_of_argument : Environment → Arg → Value
value_of_argument E (arg.One v) = v
value_of_argument E (arg.At s) = unwrap_or (cell_value E s) (value.Err fault.Lost)
value_of_argument E (arg.Over s) = value.Err (if is_some (range_shape E s) then fault.BadKind else fault.Lost)

-- an argument as a number, and as a text
abbrev pub number : Environment → Arg → Result ℤ CalcErr
number E a = number_of (value_of_argument E a)

abbrev pub text : Environment → Arg → Result (List ℕ) CalcErr
text E a = text_of (value_of_argument E a)

-- a number that is 1 when left out
abbrev pub number_or_one : Environment → Option Arg → Result ℤ CalcErr
number_or_one E None = Ok (pos 1)
number_or_one E (Some a) = number E a

-- an argument that is no error
abbrev pub no_error : Value → Result Value CalcErr
no_error (value.Err e) = Err e
no_error v = Ok v

-- what items are compared with: an empty value counts as 0
abbrev pub criterion_of : Value → Value
criterion_of value.Empty = value.Num (pos 0)
criterion_of v = v

abbrev pub criterion : Environment → Arg → Result Value CalcErr
criterion E a = and_then (no_error (value_of_argument E a)) (λ v. Ok (criterion_of v))

-- each text that is given directly has at most 127 bytes
abbrev pub AreWithinLimit : List Arg → Type 0
AreWithinLimit [] = Unit {0}
AreWithinLimit (arg.One v ∷ args) = IsWithinLimit v × AreWithinLimit args
AreWithinLimit (a ∷ args) = AreWithinLimit args
