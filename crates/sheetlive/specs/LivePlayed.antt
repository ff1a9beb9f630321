-- What a run of a live script leaves, by how it ended.
use Rattle.std.specs.Prelude.{ℕ, ◌≡◌, ◌<◌, List, ◌++◌, length, Option, Some, None, MatchOption}
use Rattle.script_read.specs.Script.{Script, ended, too_long, refused}
use Rattle.run_status.specs.declared.status.Status.{Status}
use Rattle.run_status.specs.declared.status.Status.TheVariants as status
use Rattle.live_script.specs.declared.script.LiveScript.{LiveScript}
use Rattle.live_script.specs.Scripts.{by_sites}
use Rattle.live_record.specs.Records.{live_text}
use Rattle.live_close.specs.declared.record.LiveRecord.{LiveRecord}
use Rattle.live_close.specs.Recorded.{IsRecordOf}

-- the text of a record, of a valid one, went in whole
abbrev pub WroteRecord : LiveScript → List ℕ → Option (List ℕ) → LiveRecord → Type 0
WroteRecord s before new r = (logs : List (List ℕ)) × IsRecordOf s r logs × (new ≡ Some (before ++ live_text s r.hub.state.entries logs))

-- a front of it did, and not all
abbrev pub WroteRecordFront : LiveScript → List ℕ → Option (List ℕ) → LiveRecord → Type 0
WroteRecordFront s before new r =
    (logs : List (List ℕ)) × IsRecordOf s r logs
    × ((part rest : List ℕ) × (part ++ rest ≡ live_text s r.hub.state.entries logs) × (0 < length rest) × (new ≡ Some (before ++ part)))

-- At the end of the script its record was written; at another stop of it, and after another fault than of writing, nothing was.
abbrev pub LivePlayed : Script → List ℕ → Option (List ℕ) → Status → Option LiveRecord → Type 0
LivePlayed s before new status.Done noted = (s.stop ≡ ended) × MatchOption noted ⊥ (WroteRecord (by_sites s.commands) before new)
LivePlayed s before new status.WriteFault noted = (s.stop ≡ ended) × MatchOption noted ⊥ (WroteRecordFront (by_sites s.commands) before new)
LivePlayed s before new (status.Script err) noted = (s.stop ≡ refused err) × (new ≡ Some before) × (noted ≡ None)
LivePlayed s before new (status.TooLong line) noted = (s.stop ≡ too_long line) × (new ≡ Some before) × (noted ≡ None)
LivePlayed s before new status.ReadFault noted = (new ≡ Some before) × (noted ≡ None)
LivePlayed s before new status.Memory noted = (new ≡ Some before) × (noted ≡ None)
LivePlayed s before new status.Usage noted = ⊥
