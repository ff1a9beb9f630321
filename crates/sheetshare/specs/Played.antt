-- What a run leaves, by how it ended.
use Rattle.std.specs.Prelude.{ℕ, ◌≡◌, ◌<◌, ◌⊎◌, List, ◌++◌, length, Option, Some, None, Result, Ok, Err}
use Rattle.script_read.specs.Script.{Script, Stop, script, ended, too_long, refused}
use Rattle.script_run.specs.Transcript.{transcript}
use Rattle.words.specs.declared.Call.{Call}
use Rattle.words.specs.declared.Call.TheVariants as call
use Rattle.generated_run.specs.Summary.{IsSummary}
use Rattle.run_status.specs.declared.status.Status.{Status}
use Rattle.run_status.specs.declared.status.Status.TheVariants as status

-- all of the transcript went in behind what was there
abbrev pub Wrote : Script → List ℕ → Option (List ℕ) → Type 0
Wrote s before new = new ≡ Some (before ++ transcript s.commands)

-- a front of it did
abbrev pub WrotePrefix : Script → List ℕ → Option (List ℕ) → Type 0
WrotePrefix s before new = (part rest : List ℕ) × (part ++ rest ≡ transcript s.commands) × (new ≡ Some (before ++ part))

-- a front of it did, and not all
abbrev pub WroteFront : Script → List ℕ → Option (List ℕ) → Type 0
WroteFront s before new = (part rest : List ℕ) × (part ++ rest ≡ transcript s.commands) × (0 < length rest) × (new ≡ Some (before ++ part))

-- At a stop of the script all that its commands print was written, and else a front of it: after a fault of writing not all.
abbrev pub Played : Script → List ℕ → Option (List ℕ) → Status → Type 0
Played s before new status.Done = (s.stop ≡ ended) × Wrote s before new
Played s before new (status.Script err) = (s.stop ≡ refused err) × Wrote s before new
Played s before new (status.TooLong line) = (s.stop ≡ too_long line) × Wrote s before new
Played s before new status.ReadFault = WrotePrefix s before new
Played s before new status.WriteFault = WroteFront s before new
Played s before new status.Memory = WrotePrefix s before new
Played s before new status.Usage = ⊥

-- an answer that tells where a script stops tells the stop of this one
abbrev pub StopsAs : Stop → Status → Type 0
StopsAs stop status.Done = stop ≡ ended
StopsAs stop (status.Script err) = stop ≡ refused err
StopsAs stop (status.TooLong line) = stop ≡ too_long line
StopsAs stop _ = Unit {0}

-- The summary of a generated run was written, or after a fault a front of it, and not all. Memory is wanted before any of it is written.
abbrev pub WroteSummary : ℕ → List ℕ → Option (List ℕ) → Status → Type 0
WroteSummary number before new status.Done = (text : List ℕ) × IsSummary number text × (new ≡ Some (before ++ text))
WroteSummary number before new status.WriteFault = (part rest : List ℕ) × IsSummary number (part ++ rest) × (0 < length rest) × (new ≡ Some (before ++ part))
WroteSummary number before new status.Memory = new ≡ Some before
WroteSummary number before new _ = ⊥

-- what is asked for has an end: a generated run, or a script that ends with its line `end`
abbrev pub RunsToItsEnd : Option Call → Option (List ℕ) → Type 0
RunsToItsEnd (Some (call.Load number)) left = Unit {0}
RunsToItsEnd (Some call.Script) (Some bytes) = (script bytes).stop ≡ ended
RunsToItsEnd (Some call.Script) None = ⊥
RunsToItsEnd None left = ⊥

abbrev pub IsUnlessMemory : Status → Status → Type 0
IsUnlessMemory wanted s = (s ≡ wanted) ⊎ (s ≡ status.Memory)

-- an end without a fault is the one behind the line `end`
abbrev pub status_of : {A : Type 0} → Result A Status → Status
status_of (Ok end) = status.Done
status_of (Err s) = s
