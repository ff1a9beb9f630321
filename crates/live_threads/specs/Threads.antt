-- What is there before the threads of a run start, and what they leave.
use Rattle.std.specs.Prelude.{ℕ, zero, suc, ◌≡◌, ◌≢◌, ◌+◌, true, false, List, [], ◌∷◌, length, max, All, slice_get, get_or, Option, Some, None}
use Rattle.ss_base.specs.declared.types.Size.{Size}
use Rattle.sheet_ops.specs.declared.operation.Entry.{Entry}
use Rattle.sheet_ops.specs.Identity.{opened}
use Rattle.sheet_ops.specs.Placed.{placed}
use Rattle.sheet_ops.specs.Represents.{ClientState}
use Rattle.turn_book.specs.Passes.{BookOf, PassOf, new_pass, IsSamePass}
use Rattle.value_snap.specs.declared.rule.Store.{Store}
use Rattle.value_snap.specs.Stores.{PublisherOf}
use Rattle.value_snap.specs.Views.{store_size}
use Rattle.hub.specs.Hubs.{opening_of}
use Rattle.live_session.specs.Sessions.{SessionOf}
use Rattle.live_script.specs.declared.script.LiveScript.{LiveScript}
use Rattle.live_script.specs.declared.script.SiteScript.{SiteScript}
use Rattle.live_site.specs.declared.run.SiteEnd.{SiteEnd}
use Rattle.live_site.specs.SiteRuns.{IsSiteRun}
use Rattle.recalc_loop.specs.Desks.{IsDesk}
use Rattle.live_threads.specs.declared.opening.Opening.{Opening}
use Rattle.live_threads.specs.declared.threads.Ran.{Ran}

-- how many sites the hub is for: one where none is declared
abbrev pub hub_site_count : LiveScript → ℕ
hub_site_count s = max 1 (length s.sites)

-- ---- before
-- a client that has done nothing
abbrev pub new_client : Size → ℕ → ClientState
new_client size site = record { site = site; size = size; taken = 0; issued = 0; sheet = placed (opened size); pending = []; base = size }

-- a session of a site that has done nothing, with a new pass, and with a reader that has read nothing of this store
pub record IsFresh (size : Size) (book : BookOf) (site : ℕ) (store : Store) (s : SessionOf) : Type 0 where
  pub client : s.client ≡ new_client size site
  pub pass : s.pass ≡ new_pass book site
  pub unpushed : s.unpushed ≡ []
  pub store_is : s.reader.store ≡ store
  pub unread : s.reader.known ≡ []

-- a publisher of a store of this size that has published nothing
pub record IsNewPublisher (size : Size) (q : PublisherOf) : Type 0 where
  pub unpublished : q.list ≡ []
  pub unspent : q.spent ≡ false
  pub sized : store_size q.store ≡ size

abbrev pub no_publisher : PublisherOf
no_publisher = record { store = record { number = 0; log_name = 0; cells_name = 0; rows = 0; cols = 0 }; list = []; spent = false }

-- the store of each site, by its number
abbrev pub stores_of : List PublisherOf → ℕ → Store
stores_of qs zero = no_publisher.store
stores_of qs (suc k) = (get_or qs k no_publisher).store

-- a session for each site, and the pass that is left where none is declared; a publisher for each site that the hub is for
pub record AreBegun (s : LiveScript) (book : BookOf) (sessions : List SessionOf) (idle : Option (PassOf Entry)) (qs : List PublisherOf) : Type 0 where
  pub as_many : length sessions ≡ length s.sites
  pub fresh : (k : ℕ) (t : SessionOf) → slice_get sessions k ≡ Some t → IsFresh s.size book (suc k) (stores_of qs (suc k)) t
  pub taken : s.sites ≢ [] → idle ≡ None
  pub left : s.sites ≡ [] → idle ≡ Some (new_pass book 1)
  pub count : length qs ≡ hub_site_count s
  pub publishers : All (IsNewPublisher s.size) qs

-- The book of an empty hub with its passes: the first one for the recalculation, then one for each site.
pub record IsOpening (s : LiveScript) (o : Opening) : Type 0 where
  pub opening : o.book.opening ≡ opening_of s.size (hub_site_count s)
  pub passes : o.book.passes ≡ hub_site_count s + 1
  pub desk_pass : o.desk_pass ≡ new_pass o.book 0
  pub begun : AreBegun s o.book o.sessions o.idle o.publishers

-- ---- after
-- What a site's thread left of its session: the pass and the store are still those that it was given, and where it wasn't refused
-- memory all its lines were done.
pub record LeftBy (session : SessionOf) (site : ℕ) (t : SiteScript) (e : SiteEnd) : Type 0 where
  pub pass : IsSamePass session.pass e.ended.pass
  pub store_is : e.ended.reader.store ≡ session.reader.store
  pub run : e.done ≡ true → IsSiteRun session.client.size site t e

-- the end of a site's thread that began afresh
pub record IsEnd (size : Size) (book : BookOf) (store : Store) (site : ℕ) (t : SiteScript) (e : SiteEnd) : Type 0 where
  pub pass : IsSamePass (new_pass book site) e.ended.pass
  pub store_is : e.ended.reader.store ≡ store
  pub run : e.done ≡ true → IsSiteRun size site t e

-- All threads have ended: each site's, and that of the recalculation.
pub record IsRan (s : LiveScript) (stores : ℕ → Store) (r : Ran) : Type 0 where
  pub opening : r.book.opening ≡ opening_of s.size (hub_site_count s)
  pub passes : r.book.passes ≡ hub_site_count s + 1
  pub as_many : length r.ends ≡ length s.sites
  pub ends : (k : ℕ) (t : SiteScript) (e : SiteEnd) → slice_get s.sites k ≡ Some t → slice_get r.ends k ≡ Some e → IsEnd s.size r.book (stores (suc k)) (suc k) t e
  pub taken : s.sites ≢ [] → r.idle ≡ None
  pub left : s.sites ≡ [] → r.idle ≡ Some (new_pass r.book 1)
  pub desk : IsDesk r.book.id s.size (hub_site_count s) stores r.desk.pass r.desk.publishers r.desk.spent
