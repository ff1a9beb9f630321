-- Cells and ranges as arguments, and lists of items.
use Rattle.std.specs.Prelude.{ℕ, ℤ, ◌==◌, ◌&&◌, bytes_eq, if◌then◌else◌, is_some, Bool, false, List, [], ◌∷◌, length, map, flat_map, filter_map, slice_get, ok_or, option_map, option_and_then, Option, None, Some, Result, Ok, Err}
use Rattle.std.specs.Ordering.{int_eq}
use Rattle.ss_base.specs.declared.types.CalcErr.{CalcErr}
use Rattle.ss_base.specs.declared.types.CalcErr.TheVariants as fault
use Rattle.sheet_value.specs.declared.value.Value.{Value}
use Rattle.sheet_value.specs.declared.value.Value.TheVariants as value
use Rattle.sheet_value.specs.Values.{number_of}
use Rattle.sheet_value.specs.Environment.{Environment, cell_value, range_shape, range_values}
use Rattle.funcs.specs.declared.arg.Arg.{Arg}
use Rattle.funcs.specs.declared.arg.Arg.TheVariants as arg
use Rattle.funcs.specs.Steps.{all_of}

-- The values of a cell or a range row by row. Any other argument is `#VALUE!`, a lost one `#REF!`.
abbrev pub area : Environment → Arg → Result (List (List Value)) CalcErr
area E (arg.One v) = Err fault.BadKind
area E (arg.At s) = ok_or (option_map (λ v. (v ∷ []) ∷ []) (cell_value E s)) fault.Lost
area E (arg.Over s) = if is_some (range_shape E s) then Ok (range_values E s) else Err fault.Lost

-- its items, row by row
abbrev pub items : List (List Value) → List Value
items rows = flat_map (λ row. row) rows

abbrev pub width : List (List Value) → ℕ
width [] = 0
width (row ∷ rows) = length row

-- unequal shapes are `#VALUE!`
abbrev pub same_shape : List (List Value) → List (List Value) → Result (Unit {0}) CalcErr
same_shape xs ys = if (length xs == length ys) && (width xs == width ys) then Ok tt else Err fault.BadKind

-- the item in a row and a column; one outside the shape is `#REF!`
abbrev pub item_at : List (List Value) → ℕ → ℕ → Result Value CalcErr
item_at rows row col = ok_or (option_and_then (λ r. slice_get r col) (slice_get rows row)) fault.Lost

-- both numbers and equal, or both texts and equal
abbrev pub same : Value → Value → Bool
same (value.Num m) (value.Num n) = int_eq m n
same (value.Text s) (value.Text t) = bytes_eq s t
same a b = false

-- ---- lists of items

-- an item from the sheet, or one that is given directly
pub data Item : Type 0 where
  sheet : Value → Item
  direct : Value → Item

abbrev pub item_value : Item → Value
item_value (sheet v) = v
item_value (direct v) = v

abbrev pub sheet_items : Result (List (List Value)) CalcErr → List Item
sheet_items (Ok rows) = map sheet (items rows)
sheet_items (Err e) = sheet (value.Err e) ∷ []

-- the items of an argument: those of a cell or a range, one `#REF!` where it is lost, or its one value
abbrev pub items_of : Environment → Arg → List Item
items_of E (arg.One v) = direct v ∷ []
items_of E a = sheet_items (area E a)

abbrev pub items_of_all : Environment → List Arg → List Item
items_of_all E args = flat_map (λ a. items_of E a) args

-- a number or an error from the sheet; a text or an empty value is passed over
abbrev pub sheet_number : Value → Option (Result ℤ CalcErr)
sheet_number (value.Num n) = Some (Ok n)
sheet_number (value.Err e) = Some (Err e)
sheet_number v = None

abbrev pub item_number : Item → Option (Result ℤ CalcErr)
item_number (sheet v) = sheet_number v
item_number (direct v) = Some (number_of v)

-- the numbers among values from the sheet, and those of a list of items: the first error is the result
abbrev pub sheet_numbers : List Value → Result (List ℤ) CalcErr
sheet_numbers vs = all_of (filter_map sheet_number vs)

abbrev pub item_numbers : List Item → Result (List ℤ) CalcErr
item_numbers is = all_of (filter_map item_number is)

abbrev pub numbers : Environment → List Arg → Result (List ℤ) CalcErr
numbers E args = item_numbers (items_of_all E args)
