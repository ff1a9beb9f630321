-- How a run ends by its reading and its writing.
use Rattle.std.proofs.Common.{◌≡◌, ℕ, List, ◌++◌, take, drop, refl, ap, ◌∙◌, subst, arith, inl, inr, Option, Some, None}
use Rattle.std.specs.Prelude.{◌⊎◌}
use Rattle.std.proofs.lemmas.List.{take-append-drop, length-drop}
use Rattle.ss_base.specs.Streams.{Rose, AddsBack}
use Rattle.script_read.specs.Script.{Script, Stop, ended}
use Rattle.run_status.specs.declared.status.Status.{Status}
use Rattle.run_status.specs.declared.status.Status.TheVariants as status
use Rattle.live_script.specs.declared.script.LiveScript.{LiveScript}
use Rattle.live_script.specs.declared.script.LiveStop.{LiveStop}
use Rattle.live_script.specs.declared.script.LiveStop.TheVariants as stop
use Rattle.live_script.specs.Scripts.{by_sites}
use Rattle.live_script.specs.SoFar.{TellsStop}
use Rattle.live_record.specs.Records.{live_text}
use Rattle.live_close.specs.declared.record.LiveRecord.{LiveRecord}
use Rattle.live_close.specs.Recorded.{IsRecordOf}
use Rattle.sheetlive.specs.LivePlayed.{LivePlayed}
use Rattle.sheetlive.specs.Reads.{stop_status, Written}

-- ---- a script that wasn't read to its end
pub stopped : (s : Script) (before : List ℕ) (new : Option (List ℕ)) (e : LiveStop) → new ≡ Some before → TellsStop s.stop e → LivePlayed s before new (stop_status e) None
stopped s before new (stop.Script err) kept is = (is, kept, refl)
stopped s before new (stop.TooLong line) kept is = (is, kept, refl)
stopped s before new stop.ReadFault kept is = (kept, refl)
stopped s before new stop.Memory kept is = (kept, refl)

pub not_run : {B : Type 0} (e : LiveStop) → ((stop_status e ≡ status.Done) ⊎ (stop_status e ≡ status.WriteFault)) → B
not_run (stop.Script err) (inl is) = absurd (cc (is))
not_run (stop.Script err) (inr is) = absurd (cc (is))
not_run (stop.TooLong line) (inl is) = absurd (cc (is))
not_run (stop.TooLong line) (inr is) = absurd (cc (is))
not_run stop.ReadFault (inl is) = absurd (cc (is))
not_run stop.ReadFault (inr is) = absurd (cc (is))
not_run stop.Memory (inl is) = absurd (cc (is))
not_run stop.Memory (inr is) = absurd (cc (is))

pub not_usage : {B : Type 0} (e : LiveStop) → stop_status e ≡ status.Usage → B
not_usage (stop.Script err) is = absurd (cc (is))
not_usage (stop.TooLong line) is = absurd (cc (is))
not_usage stop.ReadFault is = absurd (cc (is))
not_usage stop.Memory is = absurd (cc (is))

pub read_failed : (e : LiveStop) → stop_status e ≡ status.ReadFault → e ≡ stop.ReadFault
read_failed (stop.Script err) is = absurd (cc (is))
read_failed (stop.TooLong line) is = absurd (cc (is))
read_failed stop.ReadFault is = refl
read_failed stop.Memory is = absurd (cc (is))

-- where the script has its end, and no fault was counted, memory was refused
pub only_memory : (s : Stop) (e : LiveStop) → s ≡ ended → TellsStop s e → (e ≡ stop.ReadFault → ⊥) → (stop_status e ≡ status.Done) ⊎ (stop_status e ≡ status.Memory)
only_memory s (stop.Script err) at is fault = absurd (cc (at, is))
only_memory s (stop.TooLong line) at is fault = absurd (cc (at, is))
only_memory s stop.ReadFault at is fault = absurd (fault refl)
only_memory s stop.Memory at is fault = inr refl

-- ---- a text that was written, or a front of it
added : (before text : List ℕ) (new : Option (List ℕ)) → AddsBack (Some before) new text → new ≡ Some (before ++ text)
added before text None a = absurd a
added before text (Some after) a = ap Some a

module _ (text : List ℕ) (old new : Option (List ℕ)) (faults rose : ℕ) where
  pub was_run : (st : Status) → Written text old new faults rose st → (st ≡ status.Done) ⊎ (st ≡ status.WriteFault)
  was_run status.Done w = inl refl
  was_run status.WriteFault w = inr refl
  was_run (status.Script err) w = absurd w
  was_run (status.TooLong line) w = absurd w
  was_run status.ReadFault w = absurd w
  was_run status.Memory w = absurd w
  was_run status.Usage w = absurd w

  pub write_failed : (st : Status) → Written text old new faults rose st → st ≡ status.WriteFault → Rose faults rose
  write_failed status.Done w is = absurd (cc (is))
  write_failed status.WriteFault w is = w.1
  write_failed (status.Script err) w is = absurd w
  write_failed (status.TooLong line) w is = absurd w
  write_failed status.ReadFault w is = absurd w
  write_failed status.Memory w is = absurd w
  write_failed status.Usage w is = absurd w

  pub wrote : (s : Script) (script : LiveScript) (before : List ℕ) (st : Status) (r : LiveRecord) → s.stop ≡ ended → script ≡ by_sites s.commands
      → (logs : List (List ℕ)) × IsRecordOf script r logs × (text ≡ live_text script r.hub.state.entries logs) → old ≡ Some before → Written text old new faults rose st → LivePlayed s before new st (Some r)
  wrote s script before status.Done r at is (logs, valid, text_is) told w = (
    at,
    (
      logs,
      subst (λ (x : LiveScript). IsRecordOf x r logs) is valid,
      added before text new (subst (λ (o : Option (List ℕ)). AddsBack o new text) told w) ∙ ap (λ (t : List ℕ). Some (before ++ t)) (text_is ∙ ap (λ (x : LiveScript). live_text x r.hub.state.entries logs) is),
    ),
  )
  wrote s script before status.WriteFault r at is (logs, valid, text_is) told ((n, front, taken), counted) = (
    at,
    (
      logs,
      subst (λ (x : LiveScript). IsRecordOf x r logs) is valid,
      (
        take n text,
        drop n text,
        take-append-drop n text ∙ (text_is ∙ ap (λ (x : LiveScript). live_text x r.hub.state.entries logs) is),
        (let left = length-drop n text in omega (arith, left, front)),
        added before (take n text) new (subst (λ (o : Option (List ℕ)). AddsBack o new (take n text)) told taken),
      ),
    ),
  )
  wrote s script before (status.Script err) r at is record_is told w = absurd w
  wrote s script before (status.TooLong line) r at is record_is told w = absurd w
  wrote s script before status.ReadFault r at is record_is told w = absurd w
  wrote s script before status.Memory r at is record_is told w = absurd w
  wrote s script before status.Usage r at is record_is told w = absurd w
