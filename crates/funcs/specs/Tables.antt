-- The functions of cells and ranges.
use Rattle.std.specs.Prelude.{ℕ, ℤ, pos, ◌*ℤ◌, ◌==◌, ◌||◌, nat_lt, if◌then◌else◌, count_by, filter, find, zip, map, ok_or, option_map, unwrap_or, slice_get, Bool, false, List, [], ◌∷◌, length, Result, Ok, Err}
use Rattle.std.specs.List.{position_from}
use Rattle.ss_base.specs.declared.types.CalcErr.{CalcErr}
use Rattle.ss_base.specs.declared.types.CalcErr.TheVariants as fault
use Rattle.sheet_value.specs.declared.value.Value.{Value}
use Rattle.sheet_value.specs.declared.value.Value.TheVariants as value
use Rattle.sheet_value.specs.Environment.{Environment}
use Rattle.funcs.specs.declared.arg.Arg.{Arg}
use Rattle.funcs.specs.Steps.{and_then, all_of}
use Rattle.funcs.specs.Numbers.{in_range, number_value, count_value, is_zero, total, place}
use Rattle.funcs.specs.Args.{one, two, three, four, two_or_three, number, number_or_one, no_error, criterion}
use Rattle.funcs.specs.Areas.{area, items, width, same_shape, item_at, same, sheet_numbers}

-- INDEX: the item in row r, column c, c being 1 when left out
abbrev pub index_of : Environment → List Arg → Result Value CalcErr
index_of E args =
    and_then (two_or_three args) (λ p. and_then (area E p.0) (λ rows. and_then (number E p.1) (λ r. and_then (number_or_one E p.2) (λ c.
    and_then (place r) (λ row. and_then (place c) (λ col. item_at rows row col))))))

-- an exact match is the only kind; another is `#VALUE!`
abbrev pub exact_match : ℤ → Result (Unit {0}) CalcErr
exact_match m = if is_zero m then Ok tt else Err fault.BadKind

-- the items of a single row or column; another shape is `#VALUE!`
abbrev pub line : List (List Value) → Result (List Value) CalcErr
line rows = if (length rows == 1) || (width rows == 1) then Ok (items rows) else Err fault.BadKind

-- MATCH: the place from 1 of the first item that is the same as x
abbrev pub match_of : Environment → List Arg → Result Value CalcErr
match_of E args =
    and_then (three args) (λ p. and_then (criterion E p.0) (λ x. and_then (area E p.1) (λ rows. and_then (number E p.2) (λ m.
    and_then (exact_match m) (λ _. and_then (line rows) (λ vs. ok_or (option_map count_value (position_from (λ v. same v x) 1 vs)) fault.Na))))))

-- a column of the shape; one beyond is `#REF!`
abbrev pub column : List (List Value) → ℕ → Result ℕ CalcErr
column rows col = if nat_lt col (width rows) then Ok col else Err fault.Lost

-- does the row begin with an item that is the same as x
abbrev pub begins_with : Value → List Value → Bool
begins_with x [] = false
begins_with x (v ∷ vs) = same v x

-- the item in a column of the first row that begins with an item that is the same as x
abbrev pub looked_up : Value → ℕ → List (List Value) → Result Value CalcErr
looked_up x col rows = and_then (ok_or (find (begins_with x) rows) fault.Na) (λ row. ok_or (slice_get row col) fault.Lost)

-- VLOOKUP: the item in column c of the first row whose first item is the same as x
abbrev pub vlookup_of : Environment → List Arg → Result Value CalcErr
vlookup_of E args =
    and_then (four args) (λ p. and_then (criterion E p.0) (λ x. and_then (area E p.1) (λ rows. and_then (number E p.2) (λ c. and_then (number E p.3) (λ m.
    and_then (exact_match m) (λ _. and_then (place c) (λ k. and_then (column rows k) (λ col. looked_up x col rows))))))))

-- COUNTIF: how many items are the same as x
abbrev pub countif_of : Environment → List Arg → Result Value CalcErr
countif_of E args =
    and_then (two args) (λ p. and_then (area E p.0) (λ rows. and_then (criterion E p.1) (λ x. Ok (count_value (count_by (λ v. same v x) (items rows))))))

-- SUMIF: the exact total of the numbers of s at the places whose item is the same as x, s being the first when left out
abbrev pub chosen : Value → List Value → List Value → List Value
chosen x vs ws = map (λ p. p.1) (filter (λ p. same p.0 x) (zip vs ws))

abbrev pub chosen_total : Value → List (List Value) → List (List Value) → Result Value CalcErr
chosen_total x rows sums = and_then (sheet_numbers (chosen x (items rows) (items sums))) (λ ns. number_value (total ns))

abbrev pub sumif_of : Environment → List Arg → Result Value CalcErr
sumif_of E args =
    and_then (two_or_three args) (λ p. and_then (area E p.0) (λ rows. and_then (criterion E p.1) (λ x. and_then (area E (unwrap_or p.2 p.0)) (λ sums.
    and_then (same_shape rows sums) (λ _. chosen_total x rows sums)))))

-- SUMPRODUCT: the exact total of the products place by place, an item that isn't a number counting as 0
abbrev pub number_or_zero : Value → ℤ
number_or_zero (value.Num n) = n
number_or_zero v = pos 0

abbrev pub products : List Value → List Value → List (Result ℤ CalcErr)
products vs ws = map (λ p. in_range (number_or_zero p.0 *ℤ number_or_zero p.1)) (zip vs ws)

abbrev pub no_errors : List (List Value) → Result (List Value) CalcErr
no_errors rows = all_of (map (λ v. no_error v) (items rows))

abbrev pub product_total : List Value → List Value → Result Value CalcErr
product_total vs ws = and_then (all_of (products vs ws)) (λ ns. number_value (total ns))

abbrev pub sumproduct_of : Environment → List Arg → Result Value CalcErr
sumproduct_of E args =
    and_then (two args) (λ p. and_then (area E p.0) (λ xs. and_then (area E p.1) (λ ys. and_then (same_shape xs ys) (λ _.
    and_then (no_errors xs) (λ vs. and_then (no_errors ys) (λ ws. product_total vs ws))))))

-- ROWS and COLUMNS: those of the shape
abbrev pub rows_of : Environment → List Arg → Result Value CalcErr
rows_of E args = and_then (one args) (λ a. and_then (area E a) (λ rows. Ok (count_value (length rows))))

abbrev pub columns_of : Environment → List Arg → Result Value CalcErr
columns_of E args = and_then (one args) (λ a. and_then (area E a) (λ rows. Ok (count_value (width rows))))
