-- The record that a run of a live script leaves.
use Rattle.std.specs.Prelude.{ℕ, suc, ◌≡◌, ◌≤◌, ◌<◌, ◌+◌, ◌⊎◌, List, length, map, Contains, slice_get, Some}
use Rattle.std.specs.List.{range_with_len}
use Rattle.sheet_ops.specs.Represents.{ClientState}
use Rattle.live_script.specs.declared.script.LiveScript.{LiveScript}
use Rattle.live_record.specs.declared.note.Note.{Note}
use Rattle.live_record.specs.declared.note.NoteKind.TheVariants as kind
use Rattle.live_record.specs.Records.{IsRecord, HasTakenAll}
use Rattle.live_site.specs.SiteRuns.{holds_noted}
use Rattle.live_threads.specs.Threads.{hub_site_count}
use Rattle.live_close.specs.declared.record.LiveRecord.{LiveRecord}

-- values after at least one entry were read, or waited for
abbrev pub IsOfValues : Note → Type 0
IsOfValues n = (0 < n.length) × ((n.kind ≡ kind.Read) ⊎ (n.kind ≡ kind.Synced))

-- The record of a script with its logs. Each site's client has taken the whole history, and represents it. The passes of the book are
-- that of the recalculation and then one for each site that the hub is for. A site's pass had the hub at least as often as the site
-- noted a push, a pull or a sync, and the first pass had it where values after an entry were noted.
pub record IsRecordOf (s : LiveScript) (r : LiveRecord) (logs : List (List ℕ)) : Type 0 where
  pub size : r.hub.state.size ≡ s.size
  pub record_is : IsRecord s r.hub.state.entries r.notes logs
  pub as_many : length r.clients ≡ length s.sites
  pub clients : (k : ℕ) (c : ClientState) → slice_get r.clients k ≡ Some c → HasTakenAll s.size r.hub.state.entries (suc k) c
  pub passes : map (λ (h : ℕ × ℕ). h.0) r.hub.holds ≡ range_with_len 0 (hub_site_count s + 1)
  pub held : (k : ℕ) (ns : List Note) → slice_get r.notes k ≡ Some ns → (holds : ℕ) × Contains r.hub.holds (suc k, holds) × (holds_noted ns ≤ holds)
  pub recalculated : (k : ℕ) (ns : List Note) (n : Note) → slice_get r.notes k ≡ Some ns → Contains ns n → IsOfValues n → (holds : ℕ) × Contains r.hub.holds (0, holds) × (0 < holds)
