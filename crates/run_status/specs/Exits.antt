-- The number that the program ends with, and what it says of a status on standard error.
use Rattle.std.specs.Prelude.{ℕ, List, ◌++◌, codes, decimal}
use Rattle.script_read.specs.declared.script.ScriptKind.{ScriptKind}
use Rattle.script_read.specs.declared.script.ScriptKind.TheVariants as kind
use Rattle.run_status.specs.declared.status.Status.{Status}
use Rattle.run_status.specs.declared.status.Status.TheVariants as status

abbrev pub exit_code : Status → ℕ
exit_code status.Done = 0
exit_code (status.Script err) = 1
exit_code status.ReadFault = 2
exit_code status.WriteFault = 3
exit_code status.Memory = 4
exit_code status.Usage = 5
exit_code (status.TooLong line) = 6

-- why a script stopped
abbrev pub stop_text : ScriptKind → List ℕ
stop_text kind.Grammar = codes "grammar"
stop_text kind.Sheet = codes "sheet"
stop_text kind.Site = codes "site"
stop_text kind.NotLive = codes "not live"
stop_text kind.Unended = codes "unended"

-- what is said of the line with a number
abbrev pub line_text : ℕ → List ℕ → List ℕ
line_text line said = codes "line " ++ decimal line ++ codes ": " ++ said

-- what is said of a status, behind the program's name
abbrev pub status_text : Status → List ℕ
status_text status.Done = codes "done"
status_text (status.Script err) = line_text err.line (stop_text err.kind)
status_text status.ReadFault = codes "read fault"
status_text status.WriteFault = codes "write fault"
status_text status.Memory = codes "no memory"
status_text status.Usage = codes "usage"
status_text (status.TooLong line) = line_text line (codes "too long")
