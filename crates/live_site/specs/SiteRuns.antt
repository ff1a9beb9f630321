-- What a site's thread leaves.
use Rattle.std.specs.Prelude.{ℕ, ◌≡◌, ◌≤◌, Bool, true, false, List, [], length, filter}
use Rattle.ss_base.specs.declared.types.Size.{Size}
use Rattle.ss_base.specs.Lists.{IsPrefixOf}
use Rattle.sheet_value.specs.Tables.{Table}
use Rattle.value_snap.specs.declared.published.Published.{Published}
use Rattle.value_snap.specs.Lists.{replay_of}
use Rattle.turn_book.specs.Passes.{PassOf, seen_by, made_in}
use Rattle.sheet_ops.specs.declared.operation.Entry.{Entry}
use Rattle.live_session.specs.Sessions.{ReplicaStands}
use Rattle.recalc_loop.specs.Standing.{snapshot_values}
use Rattle.live_script.specs.declared.script.SiteScript.{SiteScript}
use Rattle.live_record.specs.declared.note.Note.{Note}
use Rattle.live_record.specs.declared.note.NoteKind.{NoteKind}
use Rattle.live_record.specs.declared.note.NoteKind.TheVariants as kind
use Rattle.live_record.specs.Replays.{Beside, Done, nothing_done, Does}
use Rattle.live_site.specs.declared.run.SiteEnd.{SiteEnd}

-- what may be read where a list is known: the values after each beginning of it
abbrev pub ShowsKnown : Size → List Published → ℕ → Table → Type 0
ShowsKnown size known l T = (L : List Published) × IsPrefixOf L known × ((replay_of size L).length ≡ l) × (T ≡ snapshot_values (replay_of size L))

-- beside the history that a pass has seen
abbrev pub beside_seen : Size → ℕ → List ℕ → PassOf Entry → List Published → Beside
beside_seen size site name p known = record { size = size; history = seen_by p; site = site; name = name; Shows = ShowsKnown size known }

-- a line that pushes or pulls has the hub once
abbrev pub is_hold : NoteKind → Bool
is_hold kind.Read = false
is_hold _ = true

abbrev pub holds_noted : List Note → ℕ
holds_noted notes = length (filter (λ (n : Note). is_hold n.kind) notes)

-- All lines were done and noted, beside the history that the pass has seen and the list that the reader knows; what the site
-- did is all pushed, and the replica stands.
pub record IsSiteRun (size : Size) (site : ℕ) (s : SiteScript) (end : SiteEnd) : Type 0 where
  pub done : Done
  pub does : Does (beside_seen size site s.name end.ended.pass end.ended.reader.known) s.lines nothing_done end.notes done
  pub own : done.own ≡ made_in end.ended.pass
  pub log : done.log ≡ end.log
  pub holds : holds_noted end.notes ≤ end.ended.pass.holds
  pub stands : ReplicaStands end.ended.client end.ended.pass []
