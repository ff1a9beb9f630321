-- What is kept of numbers that are found one after another.
use Rattle.std.specs.Prelude.{ℕ, ℤ, pos, suc, ◌+ℤ◌, ◌&&◌, ◌||◌, not, fold, Bool, true, false, List, Option, None, Some, Result, Ok}
use Rattle.std.specs.Int.{int_min, int_max}
use Rattle.ss_base.specs.declared.types.CalcErr.{CalcErr}
use Rattle.funcs.specs.Steps.{and_then}
use Rattle.funcs.specs.Numbers.{is_zero}

pub record TallyOf : Type 0 where
  pub count : ℕ
  pub total : ℤ
  pub least : Option ℤ
  pub greatest : Option ℤ
  pub all_true : Bool  -- none is 0
  pub any_true : Bool  -- one isn't 0

abbrev pub nothing_tallied : TallyOf
nothing_tallied = record { count = 0; total = pos 0; least = None; greatest = None; all_true = true; any_true = false }

abbrev pub least_with : Option ℤ → ℤ → ℤ
least_with None n = n
least_with (Some m) n = int_min m n

abbrev pub greatest_with : Option ℤ → ℤ → ℤ
greatest_with None n = n
greatest_with (Some m) n = int_max m n

abbrev pub with_number : TallyOf → ℤ → TallyOf
with_number t n = record {
  count = suc t.count;
  total = t.total +ℤ n;
  least = Some (least_with t.least n);
  greatest = Some (greatest_with t.greatest n);
  all_true = t.all_true && not (is_zero n);
  any_true = t.any_true || not (is_zero n);
}

-- with all of some numbers, unless there is an error before them
abbrev pub with_numbers : TallyOf → Result (List ℤ) CalcErr → Result TallyOf CalcErr
with_numbers t r = and_then r (λ ns. Ok (fold with_number t ns))

-- of those numbers alone
abbrev pub tally_of : Result (List ℤ) CalcErr → Result TallyOf CalcErr
tally_of r = with_numbers nothing_tallied r
