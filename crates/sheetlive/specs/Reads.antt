-- How a run ends by its reading and its writing.
use Rattle.std.specs.Prelude.{ℕ, List, Option}
use Rattle.ss_base.specs.Streams.{Rose, AddsBack, TakesPrefix}
use Rattle.run_status.specs.declared.status.Status.{Status}
use Rattle.run_status.specs.declared.status.Status.TheVariants as status
use Rattle.live_script.specs.declared.script.LiveStop.{LiveStop}
use Rattle.live_script.specs.declared.script.LiveStop.TheVariants as stop

-- the status of a script that wasn't read to its end
abbrev pub stop_status : LiveStop → Status
stop_status (stop.Script err) = status.Script err
stop_status (stop.TooLong line) = status.TooLong line
stop_status stop.ReadFault = status.ReadFault
stop_status stop.Memory = status.Memory

-- all of a text went in, or a front of it and not all, where the count of faults rose
abbrev pub Written : List ℕ → Option (List ℕ) → Option (List ℕ) → ℕ → ℕ → Status → Type 0
Written text old new faults rose status.Done = AddsBack old new text
Written text old new faults rose status.WriteFault = TakesPrefix old new text × Rose faults rose
Written text old new faults rose _ = ⊥
