-- counts and row numbers
use Rattle.std.specs.Prelude.{ℕ, pred, Bool, nat_le, ◌&&◌, if◌then◌else◌, List, length, slice_index, Option, Some, None, option_map}
use Rattle.std.specs.Char.{is_ascii_digit}
use Rattle.std.specs.Int.{is_in_range}
use Rattle.std.specs.List.{list_all}
use Rattle.std.specs.Str.Parse.{digits_value}

-- 1 to 7 digits, the first of them 1 to 9
abbrev pub is_count : List ℕ → Bool
is_count text = is_in_range 49 57 (slice_index text 0) && (list_all is_ascii_digit text && nat_le (length text) 7)

-- the number that they are
abbrev pub counted : List ℕ → Option ℕ
counted text = if is_count text then Some (digits_value 10 text) else None

-- the row, counted from 0, that a row number names; row numbers count from 1
abbrev pub row_numbered : List ℕ → Option ℕ
row_numbered text = option_map pred (counted text)
