-- No result has a text of more than 127 bytes.
use Rattle.std.proofs.Common.{◌≡◌, ℕ, zero, suc, ℤ, Bool, true, false, cond, List, [], ◌∷◌, length, map, Result, Ok, Err, refl, sym, subst, arith}
use Rattle.std.specs.Prelude.{◌-◌, ◌-ℤ◌, ◌*ℤ◌, pos, int_div, unsigned_abs, not, take, drop, nat_le, is_some, slice_get, find, ok_or, unwrap_or, option_map, Option, Some, None, IfOk}
use Rattle.std.specs.List.{AllByRecursion, position_from, flat_map, list_all, list_any}
use Rattle.std.specs.Str.{bytes_eq}
use Rattle.std.proofs.lemmas.Bool.Decides.{nat_tests}
use Rattle.ss_base.specs.declared.types.Memory.{Memory}
use Rattle.ss_base.specs.declared.types.CalcErr.{CalcErr}
use Rattle.ss_base.specs.declared.types.CalcErr.TheVariants as fault
use Rattle.sheet_value.specs.declared.value.Value.{Value}
use Rattle.sheet_value.specs.declared.value.Value.TheVariants as value
use Rattle.sheet_value.specs.Values.{IsWithinLimit, text_value}
use Rattle.sheet_value.specs.Environment.{Environment, HasShortTexts, cell_value, range_shape, range_values}
use Rattle.funcs.specs.declared.arg.Arg.{Arg}
use Rattle.funcs.specs.declared.arg.Arg.TheVariants as arg
use Rattle.funcs.specs.Steps.{and_then, all_of, answer}
use Rattle.formula_tree.specs.declared.functions.Fun.{Fun}
use Rattle.formula_tree.specs.declared.functions.Fun.TheVariants as fun
use Rattle.funcs.specs.Numbers.{number_value, is_in_range, is_zero, place, total, byte_count, count_value, truth, floor_div}
use Rattle.funcs.specs.Args.{none, one, two, one_or_more, two_or_three, two_or_more, three, four, value_of_argument, number, number_or_one, text, criterion, AreWithinLimit}
use Rattle.funcs.specs.Areas.{area, items, item_at, same_shape, sheet_numbers}
use Rattle.funcs.specs.Scalars.{value_or_zero, dividend_and_divisor, if_of, iferror_of, test_of, is_error, is_na, is_blank, is_number, is_text, choose_of}
use Rattle.funcs.specs.Lists.{numbers_given}
use Rattle.funcs.specs.Calls.{call_of}
use Rattle.funcs.specs.Texts.{text_and_count, mid_of}
use Rattle.funcs.specs.Tables.{no_errors, products, index_of, exact_match, line, match_of, column, looked_up, vlookup_of, chosen, sumif_of, begins_with}

pub result_within : (r : Result Value Memory) (m : Value) → IfOk r (λ v. v ≡ m) → IsWithinLimit m → IfOk r (λ v. IsWithinLimit v)
result_within (Ok v) m e h = subst (λ (w : Value). IsWithinLimit w) (sym e) h
result_within (Err e) m h w = tt

pub known_within : (r : Result Value Memory) (m : Value) → r ≡ Ok m → IsWithinLimit m → IfOk r (λ v. IsWithinLimit v)
known_within r m e h = subst (λ (q : Result Value Memory). IfOk q (λ v. IsWithinLimit v)) (sym e) h

-- one step and the next
pub steps : {A : Type 0} (r : Result A CalcErr) (f : A → Result Value CalcErr) → ((x : A) → r ≡ Ok x → IsWithinLimit (answer (f x))) → IsWithinLimit (answer (and_then r f))
steps (Ok x) f h = h x refl
steps (Err e) f h = tt

pub text_value-within : (t : List ℕ) → IsWithinLimit (text_value t)
text_value-within t = by_test (nat_le (length t) 127) refl
  where
    by_test : (b : Bool) → nat_le (length t) 127 ≡ b → IsWithinLimit (cond b (value.Text t) (value.Err fault.BadKind))
    by_test true e = grind (arith, nat_tests)
    by_test false e = tt

pub number-within : (n : ℤ) → IsWithinLimit (answer (number_value n))
number-within n = by_test (is_in_range n)
  where
    by_test : (b : Bool) → IsWithinLimit (answer (and_then (cond b (Ok n) (Err fault.BadNum)) (λ m. Ok (value.Num m))))
    by_test true = tt
    by_test false = tt

pub truth-within : (b : Bool) → IsWithinLimit (truth b)
truth-within true = tt
truth-within false = tt

-- ---- mid, match and sumif
pub mid-within : (E : Environment) (args : List Arg) → IsWithinLimit (answer (mid_of E args))
mid-within E args =
    steps (three args) _ (λ p _. steps (text E p.0) _ (λ t _. steps (number E p.1) _ (λ s _. steps (number E p.2) _ (λ n _.
    steps (place s) _ (λ k _. steps (byte_count n) _ (λ m _. text_value-within _))))))

pub match-within : (E : Environment) (args : List Arg) → IsWithinLimit (answer (match_of E args))
match-within E args =
    steps (three args) _ (λ p _. steps (criterion E p.0) _ (λ x _. steps (area E p.1) _ (λ rows _. steps (number E p.2) _ (λ m _.
    steps (exact_match m) _ (λ _ _. steps (line rows) _ (λ vs _. place-within (position_from _ 1 vs)))))))
  where
    place-within : (o : Option ℕ) → IsWithinLimit (answer (ok_or (option_map count_value o) fault.Na))
    place-within None = tt
    place-within (Some k) = tt

pub sumif-within : (E : Environment) (args : List Arg) → IsWithinLimit (answer (sumif_of E args))
sumif-within E args =
    steps (two_or_three args) _ (λ p _. steps (area E p.0) _ (λ rows _. steps (criterion E p.1) _ (λ x _. steps (area E (unwrap_or p.2 p.0)) _ (λ sums _.
    steps (same_shape rows sums) _ (λ _ _. steps (sheet_numbers (chosen x (items rows) (items sums))) _ (λ ns _. number-within (total ns)))))))

-- ---- values that are handed on
module _ (E : Environment) (short : HasShortTexts E) where
  pub cell-within : (s : _) → IsWithinLimit (unwrap_or (cell_value E s) (value.Err fault.Lost))
  cell-within s = by_place (E.place s)
    where
      by_place : (o : Option (ℕ × ℕ)) → IsWithinLimit (unwrap_or (option_map (λ at. E.value at.0 at.1) o) (value.Err fault.Lost))
      by_place None = tt
      by_place (Some at) = short at.0 at.1

  first-within : (a : Arg) (args : List Arg) → AreWithinLimit (a ∷ args) → IsWithinLimit (value_of_argument E a)
  first-within (arg.One v) args h = h.0
  first-within (arg.At s) args h = cell-within s
  first-within (arg.Over s) args h = tt

  rest-within : (a : Arg) (args : List Arg) → AreWithinLimit (a ∷ args) → AreWithinLimit args
  rest-within (arg.One v) args h = h.1
  rest-within (arg.At s) args h = h
  rest-within (arg.Over s) args h = h

  if_values : (args : List Arg) (p : Arg × Arg × Option Arg) → two_or_three args ≡ Ok p → AreWithinLimit args → IsWithinLimit (value_of_argument E p.1) × IsWithinLimit (value_or_zero E p.2)
  if_values [] p e h = absurd (cc)
  if_values (x ∷ []) p e h = absurd (cc)
  if_values (x ∷ y ∷ []) p e h =
      let is : (x, y, None) ≡ p = cc in
      subst (λ (q : Arg × Arg × Option Arg). IsWithinLimit (value_of_argument E q.1) × IsWithinLimit (value_or_zero E q.2)) is (first-within y [] (rest-within x (y ∷ []) h), tt)
  if_values (x ∷ y ∷ z ∷ []) p e h =
      let is : (x, y, Some z) ≡ p = cc in
      let rest = rest-within x (y ∷ z ∷ []) h in
      subst (λ (q : Arg × Arg × Option Arg). IsWithinLimit (value_of_argument E q.1) × IsWithinLimit (value_or_zero E q.2)) is (first-within y (z ∷ []) rest, first-within z [] (rest-within y (z ∷ []) rest))
  if_values (x ∷ y ∷ z ∷ w ∷ args) p e h = absurd (cc)

  pub if-within : (args : List Arg) → AreWithinLimit args → IsWithinLimit (answer (if_of E args))
  if-within args h = steps (two_or_three args) _ (λ p e. steps (number E p.0) _ (λ n _. by_test (is_zero n) p (if_values args p e h)))
    where
      by_test : (b : Bool) (p : Arg × Arg × Option Arg) → IsWithinLimit (value_of_argument E p.1) × IsWithinLimit (value_or_zero E p.2) → IsWithinLimit (cond b (value_or_zero E p.2) (value_of_argument E p.1))
      by_test true p h = h.1
      by_test false p h = h.0

  -- one of some arguments
  member-within : (args : List Arg) (k : ℕ) → AreWithinLimit args → IsWithinLimit (answer (and_then (ok_or (slice_get args k) fault.BadKind) (λ a. Ok (value_of_argument E a))))
  member-within [] k h = tt
  member-within (a ∷ args) zero h = first-within a args h
  member-within (a ∷ args) (suc k) h = member-within args k (rest-within a args h)

  others : (args : List Arg) (p : Arg × List Arg) → two_or_more args ≡ Ok p → AreWithinLimit args → AreWithinLimit p.1
  others [] p e h = absurd (cc)
  others (x ∷ []) p e h = absurd (cc)
  others (x ∷ y ∷ args) p e h =
      let is : (x, y ∷ args) ≡ p = cc in
      subst (λ (q : Arg × List Arg). AreWithinLimit q.1) is (rest-within x (y ∷ args) h)

  pub choose-within : (args : List Arg) → AreWithinLimit args → IsWithinLimit (answer (choose_of E args))
  choose-within args h = steps (two_or_more args) _ (λ p e. steps (number E p.0) _ (λ i _. steps (place i) _ (λ k _. member-within p.1 k (others args p e h))))

  abbrev RowsWithin : List (List Value) → Type 0
  RowsWithin rows = AllByRecursion (λ row. AllByRecursion IsWithinLimit row) rows

  range-within : (rows cols : List ℕ) → RowsWithin (map (λ r. map (λ c. E.value r c) cols) rows)
  range-within [] cols = tt
  range-within (r ∷ rows) cols = (row cols, range-within rows cols)
    where
      row : (cs : List ℕ) → AllByRecursion IsWithinLimit (map (λ c. E.value r c) cs)
      row [] = tt
      row (c ∷ cs) = (short r c, row cs)

  area-within : (a : Arg) (rows : List (List Value)) → area E a ≡ Ok rows → RowsWithin rows
  area-within (arg.One v) rows e = absurd (cc)
  area-within (arg.At s) rows e = by_place (E.place s) e
    where
      by_place : (o : Option (ℕ × ℕ)) → ok_or (option_map (λ (v : Value). (v ∷ []) ∷ []) (option_map (λ at. E.value at.0 at.1) o)) fault.Lost ≡ Ok rows → RowsWithin rows
      by_place None e = absurd (cc)
      by_place (Some at) e =
          let is : (E.value at.0 at.1 ∷ []) ∷ [] ≡ rows = cc in
          subst (λ (vs : List (List Value)). RowsWithin vs) is ((short at.0 at.1, tt), tt)
  area-within (arg.Over s) rows e = by_test (is_some (range_shape E s)) e
    where
      by_test : (b : Bool) → cond b (Ok (range_values E s)) (Err fault.Lost) ≡ Ok rows → RowsWithin rows
      by_test true e = let is : range_values E s ≡ rows = cc in subst (λ (vs : List (List Value)). RowsWithin vs) is (range-within (E.rows s) (E.cols s))
      by_test false e = absurd (cc)

  -- the item in a column of a row
  in_row : (row : List Value) (j : ℕ) → AllByRecursion IsWithinLimit row → IsWithinLimit (answer (ok_or (slice_get row j) fault.Lost))
  in_row [] j h = tt
  in_row (v ∷ vs) zero h = h.0
  in_row (v ∷ vs) (suc j) h = in_row vs j h.1

  item-within : (rows : List (List Value)) (i j : ℕ) → RowsWithin rows → IsWithinLimit (answer (item_at rows i j))
  item-within [] i j h = tt
  item-within (row ∷ rows) zero j h = in_row row j h.0
  item-within (row ∷ rows) (suc i) j h = item-within rows i j h.1

  pub index-within : (args : List Arg) → IsWithinLimit (answer (index_of E args))
  index-within args =
      steps (two_or_three args) _ (λ p _. steps (area E p.0) _ (λ rows e. steps (number E p.1) _ (λ r _. steps (number_or_one E p.2) _ (λ c _.
      steps (place r) _ (λ i _. steps (place c) _ (λ j _. item-within rows i j (area-within p.0 rows e)))))))

  found-within : (x : Value) (col : ℕ) (rows : List (List Value)) → RowsWithin rows → IsWithinLimit (answer (looked_up x col rows))
  found-within x col [] h = tt
  found-within x col (row ∷ rows) h = by_test (begins_with x row) (found-within x col rows h.1)
    where
      by_test : (b : Bool) → IsWithinLimit (answer (looked_up x col rows)) →
          IsWithinLimit (answer (and_then (ok_or (cond b (Some row) (find (begins_with x) rows)) fault.Na) (λ (r : List Value). ok_or (slice_get r col) fault.Lost)))
      by_test true later = in_row row col h.0
      by_test false later = later

  pub vlookup-within : (args : List Arg) → IsWithinLimit (answer (vlookup_of E args))
  vlookup-within args =
      steps (four args) _ (λ p _. steps (criterion E p.0) _ (λ x _. steps (area E p.1) _ (λ rows e. steps (number E p.2) _ (λ c _. steps (number E p.3) _ (λ m _.
      steps (exact_match m) _ (λ _ _. steps (place c) _ (λ k _. steps (column rows k) _ (λ col _. found-within x col rows (area-within p.1 rows e)))))))))

  -- ---- all functions
  iferror-within : (args : List Arg) → AreWithinLimit args → IsWithinLimit (answer (iferror_of E args))
  iferror-within [] h = tt
  iferror-within (x ∷ []) h = tt
  iferror-within (x ∷ y ∷ []) h = by_test (is_error (value_of_argument E x)) (first-within x (y ∷ []) h) (first-within y [] (rest-within x (y ∷ []) h))
    where
      by_test : (b : Bool) → IsWithinLimit (value_of_argument E x) → IsWithinLimit (value_of_argument E y) → IsWithinLimit (cond b (value_of_argument E y) (value_of_argument E x))
      by_test true p q = q
      by_test false p q = p
  iferror-within (x ∷ y ∷ z ∷ args) h = tt

  test-within : (test : Value → Bool) (args : List Arg) → IsWithinLimit (answer (test_of test E args))
  test-within test args = steps (one args) _ (λ a _. truth-within (test (value_of_argument E a)))

  -- a function of some numbers
  given-within : (args : List Arg) (f : List ℤ → Result Value CalcErr) → ((ns : List ℤ) → IsWithinLimit (answer (f ns))) → IsWithinLimit (answer (and_then (numbers_given E args) f))
  given-within args f h = steps (numbers_given E args) f (λ ns _. h ns)

  pub call-within : (f : Fun) (args : List Arg) → AreWithinLimit args → IsWithinLimit (answer (call_of f E args))
  call-within fun.Sum args h = given-within args _ (λ ns. number-within (total ns))
  call-within fun.Count args h = steps (one_or_more args) _ (λ _ _. tt)
  call-within fun.Counta args h = steps (one_or_more args) _ (λ _ _. tt)
  call-within fun.Min args h = given-within args _ (λ ns. tt)
  call-within fun.Max args h = given-within args _ (λ ns. tt)
  call-within fun.And args h = given-within args _ (λ ns. steps (one_or_more ns) _ (λ some _. truth-within (list_all (λ n. not (is_zero n)) some)))
  call-within fun.Or args h = given-within args _ (λ ns. steps (one_or_more ns) _ (λ some _. truth-within (list_any (λ n. not (is_zero n)) some)))
  call-within fun.Abs args h = steps (one args) _ (λ a _. steps (number E a) _ (λ n _. number-within (pos (unsigned_abs n))))
  call-within fun.Sign args h = steps (one args) _ (λ a _. steps (number E a) _ (λ n _. tt))
  call-within fun.Mod args h = steps (dividend_and_divisor E args) _ (λ p _. number-within (p.0 -ℤ p.1 *ℤ floor_div p.0 p.1))
  call-within fun.Quotient args h = steps (dividend_and_divisor E args) _ (λ p _. number-within (int_div p.0 p.1))
  call-within fun.If args h = if-within args h
  call-within fun.Not args h = steps (one args) _ (λ a _. steps (number E a) _ (λ n _. truth-within (is_zero n)))
  call-within fun.Iferror args h = iferror-within args h
  call-within fun.Iserror args h = test-within is_error args
  call-within fun.Isna args h = test-within is_na args
  call-within fun.Isblank args h = test-within is_blank args
  call-within fun.Isnumber args h = test-within is_number args
  call-within fun.Istext args h = test-within is_text args
  call-within fun.Na args h = steps (none args) _ (λ _ _. tt)
  call-within fun.True args h = steps (none args) _ (λ _ _. tt)
  call-within fun.False args h = steps (none args) _ (λ _ _. tt)
  call-within fun.Len args h = steps (one args) _ (λ a _. steps (text E a) _ (λ t _. number-within (pos (length t))))
  call-within fun.Left args h = steps (text_and_count E args) _ (λ p _. text_value-within (take p.1 p.0))
  call-within fun.Right args h = steps (text_and_count E args) _ (λ p _. text_value-within (drop (length p.0 - p.1) p.0))
  call-within fun.Mid args h = mid-within E args
  call-within fun.Concatenate args h = steps (one_or_more args) _ (λ given _. steps (all_of (map (λ a. text E a) given)) _ (λ ts _. text_value-within (flat_map (λ t. t) ts)))
  call-within fun.Exact args h = steps (two args) _ (λ p _. steps (text E p.0) _ (λ s _. steps (text E p.1) _ (λ t _. truth-within (bytes_eq s t))))
  call-within fun.Choose args h = choose-within args h
  call-within fun.Index args h = index-within args
  call-within fun.Match args h = match-within E args
  call-within fun.Vlookup args h = vlookup-within args
  call-within fun.Countif args h = steps (two args) _ (λ p _. steps (area E p.0) _ (λ rows _. steps (criterion E p.1) _ (λ x _. tt)))
  call-within fun.Sumif args h = sumif-within E args
  call-within fun.Sumproduct args h =
      steps (two args) _ (λ p _. steps (area E p.0) _ (λ xs _. steps (area E p.1) _ (λ ys _. steps (same_shape xs ys) _ (λ _ _.
      steps (no_errors xs) _ (λ vs _. steps (no_errors ys) _ (λ ws _. steps (all_of (products vs ws)) _ (λ ns _. number-within (total ns))))))))
  call-within fun.Rows args h = steps (one args) _ (λ a _. steps (area E a) _ (λ rows _. tt))
  call-within fun.Columns args h = steps (one args) _ (λ a _. steps (area E a) _ (λ rows _. tt))
  call-within (fun.Unknown name) args h = tt
