-- Sites whose threads run.
use Rattle.std.specs.Prelude.{ℕ, suc, ◌≡◌, ◌≤◌, ◌<◌, List, length, slice_get, Some}
use Rattle.ss_base.specs.declared.types.Size.{Size}
use Rattle.turn_book.specs.Passes.{BookId, BookOf}
use Rattle.value_snap.specs.declared.rule.Store.{Store}
use Rattle.value_snap.specs.Views.{store_size}
use Rattle.live_session.specs.Sessions.{SessionOf}
use Rattle.live_script.specs.declared.script.LiveScript.{LiveScript}
use Rattle.live_script.specs.declared.script.SiteScript.{SiteScript}
use Rattle.live_script.specs.SoFar.{LinesWithin}
use Rattle.live_site.specs.declared.run.SiteEnd.{SiteEnd}
use Rattle.live_threads.specs.declared.threads.Begun.{Begun}
use Rattle.live_threads.specs.declared.threads.SiteWork.{SiteWork}
use Rattle.live_threads.specs.declared.threads.Running.{Running}
use Rattle.live_threads.specs.declared.threads.Running.TheVariants.{There, Here}
use Rattle.live_threads.specs.Threads.{IsFresh, LeftBy}

-- a thread with that promise, or what its work left
abbrev pub Keeps : SiteWork → Running → Type 0
Keeps w (There handle) = (handle.promise.session.value ≡ w.session.value) × (handle.promise.site.0 ≡ w.site.0) × (handle.promise.script.value ≡ w.script.value)
Keeps w (Here end) = LeftBy w.session.value w.site.0 w.script.value end

-- the thread of this site was given this session and this script
pub record IsAtWork (site : ℕ) (session : SessionOf) (t : SiteScript) (b : Begun) : Type 0 where
  pub site_is : b.work.site.0 ≡ site
  pub session_is : b.work.session.value ≡ session
  pub script_is : b.work.script.value ≡ t
  pub keeps : Keeps b.work b.running

-- a site may begin: its session is fresh over its store of the room, and its lines are within
pub record MayBeginOne (book_id : BookId) (size : Size) (stores : ℕ → Store) (sites : ℕ) (book : BookOf) (site : ℕ) (t : SiteScript) (session : SessionOf) : Type 0 where
  pub book_is : book.id ≡ book_id
  pub from : 0 < site
  pub to : site ≤ sites
  pub fresh : IsFresh size book site (stores site) session
  pub sized : store_size (stores site) ≡ size
  pub within : LinesWithin t.lines

-- each site may
pub record MayAllBegin (book_id : BookId) (size : Size) (stores : ℕ → Store) (sites : ℕ) (s : LiveScript) (book : BookOf) (sessions : List SessionOf) : Type 0 where
  pub book_is : book.id ≡ book_id
  pub as_many : length sessions ≡ length s.sites
  pub few : length s.sites ≤ 8
  pub each : (k : ℕ) (t : SiteScript) (session : SessionOf) → slice_get s.sites k ≡ Some t → slice_get sessions k ≡ Some session → MayBeginOne book_id size stores sites book (suc k) t session

-- each site was given its session and its script
pub record AreAtWork (sites : List SiteScript) (sessions : List SessionOf) (begun : List Begun) : Type 0 where
  pub as_many : length begun ≡ length sessions
  pub each : (k : ℕ) (b : Begun) → slice_get begun k ≡ Some b → (session : SessionOf) × (t : SiteScript) × (slice_get sessions k ≡ Some session) × (slice_get sites k ≡ Some t) × IsAtWork (suc k) session t b

-- what each thread left
pub record AreEnds (begun : List Begun) (ends : List SiteEnd) : Type 0 where
  pub as_many : length ends ≡ length begun
  pub each : (k : ℕ) (e : SiteEnd) → slice_get ends k ≡ Some e → (b : Begun) × (slice_get begun k ≡ Some b) × LeftBy b.work.session.value b.work.site.0 b.work.script.value e

-- what the thread of each site left
pub record AllLeft (s : LiveScript) (sessions : List SessionOf) (ends : List SiteEnd) : Type 0 where
  pub as_many : length ends ≡ length sessions
  pub each : (k : ℕ) (t : SiteScript) (e : SiteEnd) → slice_get s.sites k ≡ Some t → slice_get ends k ≡ Some e → (session : SessionOf) × (slice_get sessions k ≡ Some session) × LeftBy session (suc k) t e
