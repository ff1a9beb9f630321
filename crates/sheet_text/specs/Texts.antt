-- The texts that are printed of a sheet.
use Rattle.std.specs.Prelude.{ℕ, suc, ◌≡◌, ◌≢◌, List, [], ◌∷◌, ◌++◌, codes, decimal, Result, Ok, Err}
use Rattle.cell_addr.specs.Cells.{address}
use Rattle.sheet_ops.specs.declared.edit.EditErr.{EditErr}
use Rattle.sheet_ops.specs.declared.edit.EditErr.TheVariants as fault
use Rattle.sheet_text.specs.Shown.{ShownSheet}

-- the line of a cell, by its visible row and column: its address, a space, its text and a line feed; an empty cell has
-- none
abbrev pub cell_line : ℕ → ℕ → List ℕ → List ℕ
cell_line row col [] = []
cell_line row col (b ∷ text) = address row col ++ 32 ∷ b ∷ text ++ 10 ∷ []

-- the lines of a row's cells, from a visible column on
abbrev pub row_lines : ℕ → ℕ → List (List ℕ) → List ℕ
row_lines row col [] = []
row_lines row col (text ∷ texts) = cell_line row col text ++ row_lines row (suc col) texts

-- the lines of the cells row by row, from a visible row on
abbrev pub rows_lines : ℕ → List (List (List ℕ)) → List ℕ
rows_lines row [] = []
rows_lines row (texts ∷ rows) = row_lines row 0 texts ++ rows_lines (suc row) rows

-- the lines of a sheet's cells, row by row, in a row by columns
abbrev pub cell_lines : ShownSheet → List ℕ
cell_lines S = rows_lines 0 S.cells

-- a first line, and the cells below it
abbrev pub sheet_text : List ℕ → ShownSheet → List ℕ
sheet_text head S = head ++ 10 ∷ cell_lines S

-- the first line of a replica's sheet, without its line feed: who, how many entries it has taken, how many of its own
-- operations aren't acknowledged, and how many rows and columns are visible
abbrev pub head_text : List ℕ → ℕ → ℕ → ShownSheet → List ℕ
head_text name taken pending S =
    codes "sheet " ++ (name ++ (codes " taken " ++ (decimal taken ++ (codes " pending " ++ (decimal pending ++ (codes " rows " ++ (decimal S.rows ++ (codes " columns " ++ decimal S.cols))))))))

-- the first line of the server's sheet, without its line feed: how many entries its history has, and how many rows and
-- columns are visible
abbrev pub server_head_text : ℕ → ShownSheet → List ℕ
server_head_text length S = codes "sheet server length " ++ (decimal length ++ (codes " rows " ++ (decimal S.rows ++ (codes " columns " ++ decimal S.cols))))

-- why an edit was refused, in a word; want of memory is never printed
abbrev pub cause_text : EditErr → List ℕ
cause_text fault.OutOfSheet = codes "outside"
cause_text (fault.CopyLarge n) = codes "copy " ++ decimal n
cause_text (fault.SortLong n) = codes "sort " ++ decimal n
cause_text (fault.BadFormula p) = codes "at " ++ decimal p
cause_text fault.Deep = codes "deep"
cause_text (fault.Heavy w) = codes "heavy " ++ decimal w
cause_text fault.Spent = codes "spent"
cause_text fault.Memory = []

-- the line of a refused edit, by the number of its line in the script
abbrev pub refusal_text : ℕ → EditErr → List ℕ
refusal_text line cause = codes "refused " ++ (decimal line ++ (32 ∷ cause_text cause ++ 10 ∷ []))

-- of what an edit comes to the line of its refusal alone
abbrev pub refusal_of : {A : Type 0} → ℕ → Result A EditErr → List ℕ
refusal_of line (Ok done) = []
refusal_of line (Err e) = refusal_text line e

-- what is printed of an edit's answer
abbrev pub TextOf : Result (Unit {0}) EditErr → ℕ → List ℕ → Type 0
TextOf (Ok done) line text = text ≡ []
TextOf (Err e) line text = (e ≢ fault.Memory) × (text ≡ refusal_text line e)
