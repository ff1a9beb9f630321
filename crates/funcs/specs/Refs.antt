-- A value that borrows its text.
use Rattle.std.specs.Prelude.{Result, Ok, Err}
use Rattle.ss_base.specs.declared.types.CalcErr.{CalcErr}
use Rattle.sheet_value.specs.declared.value.Value.{Value}
use Rattle.sheet_value.specs.declared.value.Value.TheVariants as value
use Rattle.funcs.specs.declared.value_ref.ValueRef.{ValueRef}
use Rattle.funcs.specs.declared.value_ref.ValueRef.TheVariants as lent

abbrev pub owned : ValueRef → Value
owned lent.Empty = value.Empty
owned (lent.Num n) = value.Num n
owned (lent.Text t) = value.Text t.now
owned (lent.Err e) = value.Err e

abbrev pub owned_result : Result ValueRef CalcErr → Result Value CalcErr
owned_result (Ok v) = Ok (owned v)
owned_result (Err e) = Err e
