-- The values of a table by their kinds.
use Rattle.std.specs.Prelude.{ℕ, ℤ, pos, neg_ℤ, ◌+◌, ◌*◌, ◌^◌, ◌≤◌, ◌+ℤ◌, ◌≤ℤ◌, Bool, true, false, cond, List, map, fold, count_by, flat_map}
use Rattle.std.specs.List.{range_with_len}
use Rattle.ss_base.specs.declared.types.CalcErr.{CalcErr}
use Rattle.ss_base.specs.declared.types.CalcErr.TheVariants as fault
use Rattle.sheet_value.specs.declared.value.Value.{Value}
use Rattle.sheet_value.specs.declared.value.Value.TheVariants as value
use Rattle.sheet_value.specs.Tables.{Table, value_at}
use Rattle.generated_run.specs.declared.tally.Tally.{Tally}

-- the values row by row
abbrev pub row_values : Table → ℕ → List Value
row_values T row = map (λ col. value_at T row col) (range_with_len 0 T.size.cols)

abbrev pub all_values : Table → List Value
all_values T = flat_map (row_values T) (range_with_len 0 T.size.rows)

abbrev pub is_number_value : Value → Bool
is_number_value value.Empty = false
is_number_value (value.Num n) = true
is_number_value (value.Text t) = false
is_number_value (value.Err e) = false

abbrev pub is_text_value : Value → Bool
is_text_value value.Empty = false
is_text_value (value.Num n) = false
is_text_value (value.Text t) = true
is_text_value (value.Err e) = false

abbrev pub is_error_value : Value → Bool
is_error_value value.Empty = false
is_error_value (value.Num n) = false
is_error_value (value.Text t) = false
is_error_value (value.Err e) = true

abbrev pub is_circ : CalcErr → Bool
is_circ fault.Circ = true
is_circ _ = false

abbrev pub is_circle_value : Value → Bool
is_circle_value value.Empty = false
is_circle_value (value.Num n) = false
is_circle_value (value.Text t) = false
is_circle_value (value.Err e) = is_circ e

-- a number, or nothing to add
abbrev pub addend : Value → ℤ
addend value.Empty = pos 0
addend (value.Num n) = n
addend (value.Text t) = pos 0
addend (value.Err e) = pos 0

-- how many numbers, texts and errors there are among some values, how many of the errors are `#CIRC!`, and the sum of
-- the numbers
abbrev pub value_tally : List Value → Tally
value_tally vs = record {
  numbers = count_by is_number_value vs;
  texts = count_by is_text_value vs;
  errors = count_by is_error_value vs;
  circular = count_by is_circle_value vs;
  total = fold (λ sum v. sum +ℤ addend v) (pos 0) vs;
}

-- one value more
abbrev pub tallied : Tally → Value → Tally
tallied t v = record {
  numbers = t.numbers + cond (is_number_value v) 1 0;
  texts = t.texts + cond (is_text_value v) 1 0;
  errors = t.errors + cond (is_error_value v) 1 0;
  circular = t.circular + cond (is_circle_value v) 1 0;
  total = t.total +ℤ addend v;
}

abbrev pub empty_tally : Tally
empty_tally = record { numbers = 0; texts = 0; errors = 0; circular = 0; total = pos 0 }

-- of at most so many values
pub record IsTallyWithin (n : ℕ) (t : Tally) : Type 0 where
  pub numbers : t.numbers ≤ n
  pub texts : t.texts ≤ n
  pub errors : t.errors ≤ n
  pub circular : t.circular ≤ n
  pub least : neg_ℤ (pos (2 ^ 63 * n)) ≤ℤ t.total
  pub greatest : t.total ≤ℤ pos (2 ^ 63 * n)
