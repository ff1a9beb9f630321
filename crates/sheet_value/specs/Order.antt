-- The order of values, and their comparison.
use Rattle.std.specs.Prelude.{ℕ, pos, [], Result, Ok, Err}
use Rattle.std.specs.declared.cmp.Ordering.{Ordering}
use Rattle.std.specs.declared.cmp.Ordering.TheVariants.{Equal}
use Rattle.std.specs.Ordering.{ordering_then, nat_cmp, int_cmp}
use Rattle.std.specs.Cmp.Lexicographic.{slice_cmp}
use Rattle.ss_base.specs.declared.types.CalcErr.{CalcErr}
use Rattle.ss_base.specs.declared.types.CalcErr.TheVariants as fault
use Rattle.sheet_value.specs.declared.value.Value.{Value}
use Rattle.sheet_value.specs.declared.value.Value.TheVariants as value

-- the kinds in order: number, text, error, empty
abbrev pub kind_rank : Value → ℕ
kind_rank (value.Num n) = 0
kind_rank (value.Text t) = 1
kind_rank (value.Err e) = 2
kind_rank value.Empty = 3

-- the errors in order
abbrev pub error_rank : CalcErr → ℕ
error_rank fault.Div0 = 0
error_rank fault.Na = 1
error_rank fault.NoName = 2
error_rank fault.BadNum = 3
error_rank fault.Lost = 4
error_rank fault.BadKind = 5
error_rank fault.Circ = 6

-- within a kind numbers go by size, texts by bytes, errors in their order
abbrev pub order_within : Value → Value → Ordering
order_within (value.Num m) (value.Num n) = int_cmp m n
order_within (value.Text s) (value.Text t) = slice_cmp nat_cmp s t
order_within (value.Err d) (value.Err e) = nat_cmp (error_rank d) (error_rank e)
order_within a b = Equal

-- by kind, and then within the kind
abbrev pub order_of : Value → Value → Ordering
order_of a b = ordering_then (nat_cmp (kind_rank a) (kind_rank b)) (order_within a b)

-- an empty value counts as 0 beside a number, and as the empty text beside a text
abbrev pub beside : Value → Value → Value
beside value.Empty (value.Num n) = value.Num (pos 0)
beside value.Empty (value.Text t) = value.Text []
beside v other = v

-- the leftmost error, or else how the two stand to each other
abbrev pub comparison : Value → Value → Result Ordering CalcErr
comparison (value.Err e) b = Err e
comparison a (value.Err e) = Err e
comparison a b = Ok (order_of (beside a b) (beside b a))
