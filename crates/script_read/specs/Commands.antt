-- the command that a line of a script is
use Rattle.std.specs.Prelude.{ℕ, ◌+◌, ◌≤◌, min, max, nat_eq, nat_le, ◌||◌, ◌&&◌, Bool, true, false, if◌then◌else◌, List, [], ◌∷◌, length, take, drop, position, codes, Option, Some, None, option_map}
use Rattle.std.specs.List.{list_all, join_with_byte}
use Rattle.std.specs.Str.{bytes_eq}
use Rattle.ss_base.specs.declared.types.Span.{Span}
use Rattle.ss_base.specs.declared.types.Spot.{Spot}
use Rattle.cell_addr.specs.Cells.{cell_of, range_of, is_colon}
use Rattle.cell_addr.specs.Columns.{col_named}
use Rattle.cell_addr.specs.Rows.{counted, row_numbered}
use Rattle.sheet_ops.specs.declared.edit.Edit.{Edit}
use Rattle.sheet_ops.specs.declared.edit.Edit.TheVariants as edit
use Rattle.script_read.specs.declared.command.Command.{Command}
use Rattle.script_read.specs.declared.command.Command.TheVariants as command
use Rattle.script_read.specs.Words.{is_line_byte, words, named}

-- `sheet COUNT COUNT`, of at most 1,000 rows and 64 columns
abbrev pub sheet_sized : Option ℕ → Option ℕ → Option Command
sheet_sized (Some rows) (Some cols) =
    if nat_le rows 1000 && nat_le cols 64
    then Some (command.Sheet (record { rows = rows; cols = cols }))
    else None
sheet_sized _ _ = None

-- `NAME push COUNT` and `NAME pull COUNT`
abbrev pub push_of : Option (List ℕ) → Option ℕ → Option Command
push_of (Some name) (Some count) = Some (command.Push name (Some count))
push_of _ _ = None

abbrev pub pull_of : Option (List ℕ) → Option ℕ → Option Command
pull_of (Some name) (Some count) = Some (command.Pull name (Some count))
pull_of _ _ = None

-- a cell by its address without `$`
abbrev pub plain_cell : Option Spot → Option Spot
plain_cell None = None
plain_cell (Some spot) = if spot.abs_row || spot.abs_col then None else Some spot

-- `NAME set CELL ENTRY`
abbrev pub set_of : Option (List ℕ) → Option Spot → List ℕ → Option Command
set_of (Some name) (Some spot) (b ∷ entry) = Some (command.Edit name (edit.Set spot (b ∷ entry)))
set_of _ _ _ = None

-- `NAME clear CELL`
abbrev pub clear_of : Option (List ℕ) → Option Spot → Option Command
clear_of (Some name) (Some spot) = Some (command.Edit name (edit.Clear spot))
clear_of _ _ = None

-- a range by its addresses without `$`
abbrev pub plain_range : Option Span → Option Span
plain_range None = None
plain_range (Some range) = if (range.abs_top || range.abs_left) || (range.abs_bottom || range.abs_right) then None else Some range

-- `NAME read RANGE`
abbrev pub read_of : Option (List ℕ) → Option Span → Option Command
read_of (Some name) (Some range) = Some (command.Read name range)
read_of _ _ = None

-- `NAME copy RANGE CELL`
abbrev pub copy_of : Option (List ℕ) → Option Span → Option Spot → Option Command
copy_of (Some name) (Some from) (Some to) = Some (command.Edit name (edit.Copy from to))
copy_of _ _ _ = None

-- the rows of two numbers parted by the first colon, put in order, by their indexes from 0
abbrev pub rows_between : Option ℕ → Option ℕ → Option (ℕ × ℕ)
rows_between (Some a) (Some b) = Some (min a b, max a b)
rows_between _ _ = None

abbrev pub rows_at : Option ℕ → List ℕ → Option (ℕ × ℕ)
rows_at None text = None
rows_at (Some colon) text = rows_between (row_numbered (take colon text)) (row_numbered (drop (colon + 1) text))

abbrev pub row_range_of : List ℕ → Option (ℕ × ℕ)
row_range_of text = rows_at (position is_colon text) text

-- whether a sort goes downwards
abbrev pub is_downward : List ℕ → Option Bool
is_downward word = if bytes_eq word (codes "up") then Some false else if bytes_eq word (codes "down") then Some true else None

-- `NAME sort COUNT:COUNT LETTERS up`, or `down`
abbrev pub sort_command : Option (List ℕ) → Option (ℕ × ℕ) → Option ℕ → Option Bool → Option Command
sort_command (Some name) (Some rows) (Some col) (Some down) = Some (command.Edit name (edit.Sort rows.0 rows.1 col down))
sort_command _ _ _ _ = None

-- by the words behind the rows: the column's letters and the direction
abbrev pub sort_of : List (List ℕ) → Option (List ℕ) → Option (ℕ × ℕ) → Option Command
sort_of (col ∷ direction ∷ []) name rows = sort_command name rows (col_named col) (is_downward direction)
sort_of _ name rows = None

-- `NAME insrow COUNT` and the like: an edit of one visible line, by its index from 0
abbrev pub line_edit_of : (ℕ → Edit) → Option (List ℕ) → Option ℕ → Option Command
line_edit_of what (Some name) (Some index) = Some (command.Edit name (what index))
line_edit_of what _ _ = None

-- the lines of one word: `recalc`, `values`, `history`, `wire`, `end`
abbrev pub of_one_word : List ℕ → Option Command
of_one_word first =
    if bytes_eq first (codes "recalc") then Some (command.Recalc None)
    else if bytes_eq first (codes "values") then Some command.Values
    else if bytes_eq first (codes "history") then Some command.History
    else if bytes_eq first (codes "wire") then Some command.Wire
    else if bytes_eq first (codes "end") then Some command.End
    else None

-- `NAME push`, `NAME pull`, `NAME sync`
abbrev pub of_one_site : List ℕ → List ℕ → Option Command
of_one_site first second =
    if bytes_eq second (codes "push") then option_map (λ name. command.Push name None) (named first)
    else if bytes_eq second (codes "pull") then option_map (λ name. command.Pull name None) (named first)
    else if bytes_eq second (codes "sync") then option_map command.Sync (named first)
    else None

-- of two: `site NAME`, `show server`, `show NAME`, `push all`, `pull all`, `recalc COUNT`, and those of one site
abbrev pub of_two_words : List ℕ → List ℕ → Option Command
of_two_words first second =
    if bytes_eq first (codes "site") then option_map command.Site (named second)
    else if bytes_eq first (codes "show") then (if bytes_eq second (codes "server") then Some command.ShowServer else option_map command.Show (named second))
    else if bytes_eq first (codes "push") then (if bytes_eq second (codes "all") then Some command.PushAll else None)
    else if bytes_eq first (codes "pull") then (if bytes_eq second (codes "all") then Some command.PullAll else None)
    else if bytes_eq first (codes "recalc") then option_map (λ count. command.Recalc (Some count)) (counted second)
    else of_one_site first second

-- `NAME insrow COUNT`, `NAME inscol LETTERS`, `NAME delrow COUNT`, `NAME delcol LETTERS`
abbrev pub of_one_line : List ℕ → List ℕ → List ℕ → Option Command
of_one_line first second third =
    if bytes_eq second (codes "insrow") then line_edit_of edit.InsRow (named first) (row_numbered third)
    else if bytes_eq second (codes "inscol") then line_edit_of edit.InsCol (named first) (col_named third)
    else if bytes_eq second (codes "delrow") then line_edit_of edit.DelRow (named first) (row_numbered third)
    else if bytes_eq second (codes "delcol") then line_edit_of edit.DelCol (named first) (col_named third)
    else None

-- of three: `sheet COUNT COUNT`, `NAME push COUNT`, `NAME pull COUNT`, `NAME read RANGE`, `NAME clear CELL`, and those of
-- one visible line
abbrev pub of_three_words : List ℕ → List ℕ → List ℕ → Option Command
of_three_words first second third =
    if bytes_eq first (codes "sheet") then sheet_sized (counted second) (counted third)
    else if bytes_eq second (codes "push") then push_of (named first) (counted third)
    else if bytes_eq second (codes "pull") then pull_of (named first) (counted third)
    else if bytes_eq second (codes "read") then read_of (named first) (plain_range (range_of third))
    else if bytes_eq second (codes "clear") then clear_of (named first) (plain_cell (cell_of third))
    else of_one_line first second third

-- Of more, by the rest of the line behind the third word: `NAME set CELL ENTRY`, the entry being that rest, at least a
-- byte, spaces included; `NAME copy RANGE CELL`; `NAME sort COUNT:COUNT LETTERS up`, or `down`.
abbrev pub of_more_words : List ℕ → List ℕ → List ℕ → List ℕ → Option Command
of_more_words first second third rest =
    if bytes_eq second (codes "set") then set_of (named first) (plain_cell (cell_of third)) rest
    else if bytes_eq second (codes "copy") then copy_of (named first) (plain_range (range_of third)) (plain_cell (cell_of rest))
    else if bytes_eq second (codes "sort") then sort_of (words rest) (named first) (row_range_of third)
    else None

abbrev pub of_words : List (List ℕ) → Option Command
of_words [] = None
of_words (first ∷ []) = of_one_word first
of_words (first ∷ second ∷ []) = of_two_words first second
of_words (first ∷ second ∷ third ∷ []) = of_three_words first second third
of_words (first ∷ second ∷ third ∷ fourth ∷ others) = of_more_words first second third (join_with_byte 32 (fourth ∷ others))

-- an empty line, or one that begins with `#`
abbrev pub is_note : List ℕ → Bool
is_note [] = true
is_note (b ∷ bs) = nat_eq b 35

abbrev pub command_of : List ℕ → Option Command
command_of line =
    if list_all is_line_byte line
    then (if is_note line then Some command.Note else of_words (words line))
    else None

-- an entry has at most so many bytes, and ranges and rows are in order
abbrev pub EditWithin : ℕ → Edit → Type 0
EditWithin most (edit.Set spot entry) = length entry ≤ most
EditWithin most (edit.Copy from to) = (from.top ≤ from.bottom) × (from.left ≤ from.right)
EditWithin most (edit.Sort first last col down) = first ≤ last
EditWithin most _ = Unit {0}

-- so is an edit, a range that is read is in order, and the size of a sheet is one that a sheet may have
abbrev pub CommandWithin : ℕ → Command → Type 0
CommandWithin most (command.Sheet size) = (1 ≤ size.rows) × (size.rows ≤ 1000) × (1 ≤ size.cols) × (size.cols ≤ 64)
CommandWithin most (command.Edit name e) = EditWithin most e
CommandWithin most (command.Read name range) = (range.top ≤ range.bottom) × (range.left ≤ range.right)
CommandWithin most _ = Unit {0}
