-- The grammar of lines: each form that a line may have, and the command that a line of this form is.
use Rattle.std.specs.Prelude.{ℕ, ◌≡◌, ◌≤◌, Bool, true, false, List, [], ◌∷◌, ◌++◌, codes, Some, None}
use Rattle.std.specs.List.{list_all, list_any}
use Rattle.ss_base.specs.declared.types.Span.{Span}
use Rattle.ss_base.specs.declared.types.Spot.{Spot}
use Rattle.cell_addr.specs.Cells.{cell_of, range_of}
use Rattle.cell_addr.specs.Columns.{col_named}
use Rattle.cell_addr.specs.Rows.{counted, row_numbered}
use Rattle.sheet_ops.specs.declared.edit.Edit.TheVariants as edit
use Rattle.script_read.specs.declared.command.Command.{Command}
use Rattle.script_read.specs.declared.command.Command.TheVariants as command
use Rattle.script_read.specs.Words.{is_line_byte, is_space, is_site_name}
use Rattle.script_read.specs.Commands.{plain_cell, plain_range, row_range_of}

-- no space stands in it
abbrev pub IsWord : List ℕ → Type 0
IsWord word = list_any is_space word ≡ false

-- NAME, COUNT, the COUNT of a row, LETTERS, CELL, RANGE, and COUNT:COUNT of rows, with what each says
abbrev pub IsName : List ℕ → Type 0
IsName word = IsWord word × (is_site_name word ≡ true)

abbrev pub Counts : List ℕ → ℕ → Type 0
Counts word n = IsWord word × (counted word ≡ Some n)

abbrev pub NumbersRow : List ℕ → ℕ → Type 0
NumbersRow word row = IsWord word × (row_numbered word ≡ Some row)

abbrev pub NamesCol : List ℕ → ℕ → Type 0
NamesCol word col = IsWord word × (col_named word ≡ Some col)

abbrev pub IsCell : List ℕ → Spot → Type 0
IsCell word spot = IsWord word × (plain_cell (cell_of word) ≡ Some spot)

abbrev pub IsRange : List ℕ → Span → Type 0
IsRange word span = IsWord word × (plain_range (range_of word) ≡ Some span)

abbrev pub AreRows : List ℕ → ℕ → ℕ → Type 0
AreRows word first last = IsWord word × (row_range_of word ≡ Some (first, last))

-- how a sort goes: upwards or downwards
abbrev pub direction : Bool → List ℕ
direction false = codes "up"
direction true = codes "down"

-- texts with one space between each two
abbrev pub two : List ℕ → List ℕ → List ℕ
two a b = a ++ (32 ∷ b)

abbrev pub three : List ℕ → List ℕ → List ℕ → List ℕ
three a b c = two a (two b c)

pub data IsForm : List ℕ → Command → Type 0 where
  blank : IsForm [] command.Note
  note : (text : List ℕ) → IsForm (35 ∷ text) command.Note
  sheet : (rows cols : List ℕ) (m n : ℕ) → Counts rows m → Counts cols n → m ≤ 1000 → n ≤ 64 →
      IsForm (three (codes "sheet") rows cols) (command.Sheet (record { rows = m; cols = n }))
  site : (name : List ℕ) → IsName name → IsForm (two (codes "site") name) (command.Site name)
  set : (name cell entry : List ℕ) (spot : Spot) (b : ℕ) → IsName name → IsCell cell spot →
      IsForm (three name (codes "set") (two cell (b ∷ entry))) (command.Edit name (edit.Set spot (b ∷ entry)))
  clear : (name cell : List ℕ) (spot : Spot) → IsName name → IsCell cell spot →
      IsForm (three name (codes "clear") cell) (command.Edit name (edit.Clear spot))
  insrow : (name number : List ℕ) (row : ℕ) → IsName name → NumbersRow number row →
      IsForm (three name (codes "insrow") number) (command.Edit name (edit.InsRow row))
  inscol : (name letters : List ℕ) (col : ℕ) → IsName name → NamesCol letters col →
      IsForm (three name (codes "inscol") letters) (command.Edit name (edit.InsCol col))
  delrow : (name number : List ℕ) (row : ℕ) → IsName name → NumbersRow number row →
      IsForm (three name (codes "delrow") number) (command.Edit name (edit.DelRow row))
  delcol : (name letters : List ℕ) (col : ℕ) → IsName name → NamesCol letters col →
      IsForm (three name (codes "delcol") letters) (command.Edit name (edit.DelCol col))
  copy : (name range cell : List ℕ) (span : Span) (spot : Spot) → IsName name → IsRange range span → IsCell cell spot →
      IsForm (three name (codes "copy") (two range cell)) (command.Edit name (edit.Copy span spot))
  sort : (name rows letters : List ℕ) (first last col : ℕ) (down : Bool) → IsName name → AreRows rows first last → NamesCol letters col →
      IsForm (three name (codes "sort") (three rows letters (direction down))) (command.Edit name (edit.Sort first last col down))
  push : (name : List ℕ) → IsName name → IsForm (two name (codes "push")) (command.Push name None)
  push_some : (name count : List ℕ) (n : ℕ) → IsName name → Counts count n → IsForm (three name (codes "push") count) (command.Push name (Some n))
  push_all : IsForm (two (codes "push") (codes "all")) command.PushAll
  pull : (name : List ℕ) → IsName name → IsForm (two name (codes "pull")) (command.Pull name None)
  pull_some : (name count : List ℕ) (n : ℕ) → IsName name → Counts count n → IsForm (three name (codes "pull") count) (command.Pull name (Some n))
  pull_all : IsForm (two (codes "pull") (codes "all")) command.PullAll
  sync : (name : List ℕ) → IsName name → IsForm (two name (codes "sync")) (command.Sync name)
  recalc : IsForm (codes "recalc") (command.Recalc None)
  recalc_some : (count : List ℕ) (n : ℕ) → Counts count n → IsForm (two (codes "recalc") count) (command.Recalc (Some n))
  read : (name range : List ℕ) (span : Span) → IsName name → IsRange range span → IsForm (three name (codes "read") range) (command.Read name span)
  values : IsForm (codes "values") command.Values
  history : IsForm (codes "history") command.History
  wire : IsForm (codes "wire") command.Wire
  show : (name : List ℕ) → IsName name → IsForm (two (codes "show") name) (command.Show name)
  show_server : IsForm (two (codes "show") (codes "server")) command.ShowServer
  ends : IsForm (codes "end") command.End

-- the line is this command: its bytes are 32 to 126, and it has the command's form
abbrev pub IsCommand : List ℕ → Command → Type 0
IsCommand line c = (list_all is_line_byte line ≡ true) × IsForm line c
