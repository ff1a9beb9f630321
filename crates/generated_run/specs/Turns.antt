-- The commands of a generated run.
use Rattle.std.specs.Prelude.{ℕ, suc, ◌+◌, ◌%◌, nat_eq, nat_lt, if◌then◌else◌, false, List, [], ◌∷◌, ◌++◌, map, None, codes, decimal}
use Rattle.std.specs.List.{range_with_len, flat_map}
use Rattle.ss_base.specs.declared.types.Span.{Span}
use Rattle.ss_base.specs.declared.types.Spot.{Spot}
use Rattle.cell_addr.specs.Cells.{address}
use Rattle.sheet_ops.specs.declared.edit.Edit.{Edit}
use Rattle.sheet_ops.specs.declared.edit.Edit.TheVariants as edit
use Rattle.script_read.specs.declared.command.Command.{Command}
use Rattle.script_read.specs.declared.command.Command.TheVariants as command
use Rattle.generated_run.specs.declared.draws.Draws.{Draws}
use Rattle.generated_run.specs.Generator.{draws_of}

-- a cell, and the range of it alone
abbrev pub cell_without_dollars : ℕ → ℕ → Spot
cell_without_dollars row col = record { row = row; col = col; abs_row = false; abs_col = false }

abbrev pub one_cell : ℕ → ℕ → Span
one_cell row col = record { top = row; left = col; bottom = row; right = col; abs_top = false; abs_left = false; abs_bottom = false; abs_right = false }

-- the entries, as in 17, =B2+17 and =SUM(B2:B5)
abbrev pub number_entry : Draws → List ℕ
number_entry d = decimal d.number

abbrev pub sum_entry : Draws → List ℕ
sum_entry d = codes "=" ++ (address d.other_row d.other_col ++ (codes "+" ++ decimal d.number))

abbrev pub range_entry : Draws → List ℕ
range_entry d = codes "=SUM(" ++ (address d.other_row d.other_col ++ (codes ":" ++ (address (d.other_row + 3) d.other_col ++ codes ")")))

-- the edit of a turn, by the kind that it drew
unfoldable pub edit_of : Draws → Edit
edit_of d =
    if nat_lt d.kind 6 then edit.Set (cell_without_dollars d.row d.col) (number_entry d)
    else if nat_lt d.kind 9 then edit.Set (cell_without_dollars d.row d.col) (sum_entry d)
    else if nat_eq d.kind 9 then edit.Set (cell_without_dollars d.row d.col) (range_entry d)
    else if nat_eq d.kind 10 then edit.InsRow d.row
    else if nat_eq d.kind 11 then edit.DelRow d.row
    else if nat_eq d.kind 12 then edit.Copy (one_cell d.other_row d.other_col) (cell_without_dollars d.row d.col)
    else if nat_eq d.kind 13 then edit.Sort d.other_row (d.other_row + 3) d.col false
    else if nat_eq d.kind 14 then edit.Clear (cell_without_dollars d.row d.col)
    else if nat_lt d.number 500 then edit.InsCol d.col
    else edit.DelCol d.col

-- the names of the sites by their places, as s1 of the first
abbrev pub site_name : ℕ → List ℕ
site_name place = codes "s" ++ decimal (suc place)

-- what follows the edit of a site
abbrev pub delivery : ℕ → List ℕ → List Command
delivery choice name =
    if nat_eq choice 0 then command.Push name None ∷ []
    else if nat_eq choice 1 then command.Pull name None ∷ []
    else if nat_eq choice 2 then command.Recalc None ∷ []
    else []

-- a turn of a site, by what it draws
abbrev pub turn_commands : List ℕ → Draws → List Command
turn_commands name d = command.Edit name (edit_of d) ∷ delivery d.delivery name

-- a turn of the run of a number: the eight sites take turns
abbrev pub turn : ℕ → ℕ → List Command
turn number t = turn_commands (site_name (t % 8)) (draws_of number t)

-- so many turns, from the first one on
unfoldable pub turns : ℕ → ℕ → List Command
turns number count = flat_map (turn number) (range_with_len 0 count)

-- the sheet and so many sites
abbrev pub opening_with : ℕ → List Command
opening_with sites = command.Sheet (record { rows = 40; cols = 8 }) ∷ map (λ place. command.Site (site_name place)) (range_with_len 0 sites)

-- what follows the turns
abbrev pub closing : List Command
closing = command.PushAll ∷ command.PullAll ∷ command.Recalc None ∷ []

-- all commands of the run of a number
unfoldable pub generated_commands : ℕ → List Command
generated_commands number = opening_with 8 ++ (turns number 3200 ++ closing)
