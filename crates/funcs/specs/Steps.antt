-- Steps that may come to an error, which is then the result.
use Rattle.std.specs.Prelude.{List, [], ◌∷◌, Result, Ok, Err}
use Rattle.ss_base.specs.declared.types.CalcErr.{CalcErr}
use Rattle.sheet_value.specs.declared.value.Value.{Value}
use Rattle.sheet_value.specs.declared.value.Value.TheVariants as value

-- one step and the next
abbrev pub and_then : {A B : Type 0} → Result A CalcErr → (A → Result B CalcErr) → Result B CalcErr
and_then (Ok x) f = f x
and_then (Err e) f = Err e

-- what all come to, or the first error
abbrev pub all_of : {A : Type 0} → List (Result A CalcErr) → Result (List A) CalcErr
all_of [] = Ok []
all_of (r ∷ rs) = and_then r (λ x. and_then (all_of rs) (λ xs. Ok (x ∷ xs)))

-- the value, or the error as a value
abbrev pub answer : Result Value CalcErr → Value
answer (Ok v) = v
answer (Err e) = value.Err e
