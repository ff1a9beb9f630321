-- What is left of the sites once their threads have ended and the stores are closed.
use Rattle.std.specs.Prelude.{ℕ, suc, ◌≡◌, ◌≢◌, ◌≤◌, List, [], ◌∷◌, ◌++◌, length, map, slice_get, Option, Some, None, option_to_list}
use Rattle.ss_base.specs.declared.types.Size.{Size}
use Rattle.ss_base.specs.Lists.{IsPrefixOf}
use Rattle.sheet_ops.specs.declared.operation.Entry.{Entry}
use Rattle.turn_book.specs.Passes.{BookOf, PassOf, new_pass, IsSamePass, seen_by, made_in}
use Rattle.value_snap.specs.declared.published.Published.TheVariants.{End}
use Rattle.value_snap.specs.Stores.{PublisherOf}
use Rattle.hub.specs.Hubs.{opening_of}
use Rattle.live_session.specs.Sessions.{ReplicaStands}
use Rattle.live_script.specs.declared.script.LiveScript.{LiveScript}
use Rattle.live_script.specs.declared.script.SiteScript.{SiteScript}
use Rattle.live_record.specs.Replays.{Done, nothing_done, Does}
use Rattle.live_record.specs.Records.{ShowsPrefix}
use Rattle.live_site.specs.declared.run.SiteEnd.{SiteEnd}
use Rattle.live_site.specs.SiteRuns.{holds_noted}
use Rattle.live_close.specs.declared.agreeing.Parts.{Parts}
use Rattle.live_threads.specs.Threads.{hub_site_count}

-- the mark is behind all that was published
abbrev pub with_mark : PublisherOf → PublisherOf
with_mark q = record q { list = q.list ++ End ∷ [] }

-- the parts of what the sites left, behind the pass of the recalculation
abbrev pub parts_of : PassOf Entry → List SiteEnd → Parts
parts_of p ends = record {
  passes = p ∷ map (λ (e : SiteEnd). e.ended.pass) ends;
  clients = map (λ (e : SiteEnd). e.ended.client) ends;
  notes = map (λ (e : SiteEnd). e.notes) ends;
  logs = map (λ (e : SiteEnd). e.log) ends;
}

-- the parts with those of one site more
abbrev pub part_more : Parts → SiteEnd → Parts
part_more p e = record { passes = p.passes ++ e.ended.pass ∷ []; clients = p.clients ++ e.ended.client ∷ []; notes = p.notes ++ e.notes ∷ []; logs = p.logs ++ e.log ∷ [] }

-- each site's reader is of the store that stands at its place
pub record AllOver (ends : List SiteEnd) (qs : List PublisherOf) : Type 0 where
  pub enough : length ends ≤ length qs
  pub each : (k : ℕ) (e : SiteEnd) (q : PublisherOf) → slice_get ends k ≡ Some e → slice_get qs k ≡ Some q → e.ended.reader.store ≡ q.store

-- what each site's reader knew is a beginning of what its store published
abbrev pub AllKnow : List SiteEnd → List PublisherOf → Type 0
AllKnow ends qs = (k : ℕ) (e : SiteEnd) (q : PublisherOf) → slice_get ends k ≡ Some e → slice_get qs k ≡ Some q → IsPrefixOf e.ended.reader.known q.list

-- All lines of a site were done and noted beside the history that its pass has seen, where the values are those of a history that the
-- recalculation has seen; what it did is pushed, and its replica stands.
pub record IsDone (size : Size) (evaluated : List Entry) (site : ℕ) (t : SiteScript) (e : SiteEnd) : Type 0 where
  pub done : Done
  pub does : Does (record { size = size; history = seen_by e.ended.pass; site = site; name = t.name; Shows = ShowsPrefix size evaluated }) t.lines nothing_done e.notes done
  pub own : done.own ≡ made_in e.ended.pass
  pub log : done.log ≡ e.log
  pub holds : holds_noted e.notes ≤ e.ended.pass.holds
  pub stands : ReplicaStands e.ended.client e.ended.pass []

-- the parts are those of sites that are done, beside the passes of this book
pub record AreDone (s : LiveScript) (book : BookOf) (desk : PassOf Entry) (ends : List SiteEnd) (idle : Option (PassOf Entry)) : Type 0 where
  pub opening : book.opening ≡ opening_of s.size (hub_site_count s)
  pub passes : book.passes ≡ suc (hub_site_count s)
  pub desk_pass : IsSamePass (new_pass book 0) desk
  pub as_many : length ends ≡ length s.sites
  pub own : (k : ℕ) (e : SiteEnd) → slice_get ends k ≡ Some e → IsSamePass (new_pass book (suc k)) e.ended.pass
  pub each : (k : ℕ) (t : SiteScript) (e : SiteEnd) → slice_get s.sites k ≡ Some t → slice_get ends k ≡ Some e → IsDone s.size (seen_by desk) (suc k) t e
  pub taken : s.sites ≢ [] → idle ≡ None
  pub left : s.sites ≡ [] → idle ≡ Some (new_pass book 1)

-- the passes that end a book
abbrev pub all_passes : PassOf Entry → List SiteEnd → Option (PassOf Entry) → List (PassOf Entry)
all_passes desk ends idle = (desk ∷ map (λ (e : SiteEnd). e.ended.pass) ends) ++ option_to_list idle
