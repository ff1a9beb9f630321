-- a script: its commands with the numbers of their lines, and where it stops
use Rattle.std.specs.Prelude.{ℕ, ◌+◌, nat_lt, ◌||◌, not, Bool, true, false, if◌then◌else◌, List, [], ◌∷◌, ◌++◌, length, Option, Some, None}
use Rattle.std.specs.List.{list_any}
use Rattle.std.specs.Str.{bytes_eq}
use Rattle.ss_base.specs.Lines.{Line, lines, is_long}
use Rattle.script_read.specs.declared.command.Command.{Command}
use Rattle.script_read.specs.declared.command.Command.TheVariants as command
use Rattle.script_read.specs.declared.script.ScriptErr.{ScriptErr}
use Rattle.script_read.specs.declared.script.ScriptKind.{ScriptKind}
use Rattle.script_read.specs.declared.script.ScriptKind.TheVariants as kind
use Rattle.script_read.specs.Commands.{command_of}

-- What the lines so far have declared: whether the `sheet` line was read, the sites' names in order, and whether a
-- line was read that is neither a note, `sheet` nor `site`, so that no site may follow.
pub record Declared : Type 0 where
  pub sheet : Bool
  pub sites : List (List ℕ)
  pub closed : Bool

abbrev pub nothing_declared : Declared
nothing_declared = record { sheet = false; sites = []; closed = false }

abbrev pub is_declared : Declared → List ℕ → Bool
is_declared d name = list_any (bytes_eq name) d.sites

-- where a script stops
pub data Stop : Type 0 where
  ended : Stop
  too_long : ℕ → Stop
  refused : ScriptErr → Stop

abbrev pub refused_at : ℕ → ScriptKind → Stop
refused_at line kind = refused (record { line = line; kind = kind })

-- what one line comes to: the script goes on with a command, or it stops
pub data LineTurn : Type 0 where
  goes : Declared → Command → LineTurn
  stops : Stop → LineTurn

-- the kind of fault of a line that wants the sheet, and of one that names a site
abbrev pub without_sheet : Declared → Option ScriptKind
without_sheet d = if d.sheet then None else Some kind.Sheet

abbrev pub without_site : Declared → List ℕ → Option ScriptKind
without_site d name =
    if not d.sheet then Some kind.Sheet
    else if is_declared d name then None
    else Some kind.Site

-- the first kind of fault that fits a command, by what the lines before it have declared
abbrev pub fault_of : Declared → Command → Option ScriptKind
fault_of d command.Note = None
fault_of d (command.Sheet size) = if d.sheet then Some kind.Sheet else None
fault_of d (command.Site name) =
    if not d.sheet then Some kind.Sheet
    else if d.closed || (is_declared d name || nat_lt 7 (length d.sites)) then Some kind.Site
    else None
fault_of d (command.Edit name edit) = without_site d name
fault_of d (command.Push name count) = without_site d name
fault_of d (command.Pull name count) = without_site d name
fault_of d (command.Sync name) = without_site d name
fault_of d (command.Recalc count) = without_sheet d
fault_of d (command.Read name range) = without_site d name
fault_of d command.Values = without_sheet d
fault_of d command.History = without_sheet d
fault_of d command.Wire = without_sheet d
fault_of d (command.Show name) = without_site d name
fault_of d command.ShowServer = without_sheet d
fault_of d command.PushAll = without_sheet d
fault_of d command.PullAll = without_sheet d
fault_of d command.End = without_sheet d

-- what is declared after a command
abbrev pub declared_with : Declared → Command → Declared
declared_with d command.Note = d
declared_with d (command.Sheet size) = record d { sheet = true }
declared_with d (command.Site name) = record d { sites = d.sites ++ name ∷ [] }
declared_with d _ = record d { closed = true }

abbrev pub turn_accepted : Declared → Command → LineTurn
turn_accepted d command.End = stops ended
turn_accepted d c = goes (declared_with d c) c

-- the turn of a command on line n
abbrev pub turn_of : Declared → ℕ → Command → LineTurn
turn_of d n c = elim (fault_of d c) as (λ _. LineTurn) [
  | None ↦ turn_accepted d c
  | Some k ↦ stops (refused_at n k)
]

abbrev pub turn_of_line : Declared → ℕ → Option Command → LineTurn
turn_of_line d n None = stops (refused_at n kind.Grammar)
turn_of_line d n (Some c) = turn_of d n c

-- the turn of line n. One that is too long stops the script, whatever it says.
abbrev pub turn_at : Declared → ℕ → Line → LineTurn
turn_at d n l = if is_long l then stops (too_long n) else turn_of_line d n (command_of l.bytes)

pub record Script : Type 0 where
  pub commands : List (ℕ × Command)
  pub stop : Stop

-- a line's turn, and then the rest of the script
abbrev pub after_turn : ℕ → LineTurn → (Declared → Script) → Script
after_turn n (stops s) rest = record { commands = []; stop = s }
after_turn n (goes d c) rest = record { commands = (n, c) ∷ (rest d).commands; stop = (rest d).stop }

-- the script of the lines from number n on
abbrev pub script_from : Declared → ℕ → List Line → Script
script_from d n [] = record { commands = []; stop = refused_at n kind.Unended }
script_from d n (l ∷ ls) = after_turn n (turn_at d n l) (λ declared. script_from declared (n + 1) ls)

abbrev pub script_of : List Line → Script
script_of ls = script_from nothing_declared 1 ls

abbrev pub script : List ℕ → Script
script bs = script_of (lines bs)
