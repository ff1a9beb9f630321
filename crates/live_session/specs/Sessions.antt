-- What contracts see of a session, and what it keeps.
use Rattle.std.specs.Prelude.{◌≡◌, ◌<◌, ◌≤◌, ℕ, List, [], ◌++◌, map, length}
use Rattle.ss_base.specs.declared.types.Site.{Site}
use Rattle.sheet_ops.specs.declared.operation.Entry.{Entry}
use Rattle.sheet_ops.specs.declared.operation.Up.{Up}
use Rattle.sheet_ops.specs.History.{own_entries, IsValidHistory}
use Rattle.sheet_ops.specs.Represents.{ClientState, ClientRepresents}
use Rattle.jup_server.specs.Servers.{entry_of}
use Rattle.turn_book.specs.Passes.{PassOf, seen_by, made_in}
use Rattle.hub.specs.Hubs.{opening_of}
use Rattle.value_snap.specs.Stores.{ReaderOf}

-- its replica; its pass, which knows the history that it has seen and the own entries there; its own entries that it has not
-- pushed, in order; the reader of its store; and how far the values go that it read last or found a range outside of
pub record SessionOf : Type 0 where
  pub client : ClientState
  pub pass : PassOf Entry
  pub unpushed : List Entry
  pub reader : ReaderOf
  pub read_length : ℕ

-- the entries that a site's messages become
abbrev pub entries_by : Site → List Up → List Entry
entries_by site ups = map (entry_of site.0) ups

-- The replica represents the history that the pass has seen, beside the site's own entries: those that the pass made, which are
-- the own ones there, and then those that wait.
pub record ReplicaStands (c : ClientState) (p : PassOf Entry) (waiting : List Entry) : Type 0 where
  pub sites : ℕ
  pub opening : p.opening ≡ opening_of c.size sites
  pub from : 0 < c.site
  pub to : c.site ≤ sites
  pub number : p.number ≡ c.site
  pub issued : c.issued ≤ 1000
  pub valid : IsValidHistory c.size sites (seen_by p)
  pub own : own_entries c.site (seen_by p) ≡ made_in p
  pub represents : ClientRepresents c (seen_by p) (made_in p ++ waiting)

-- where a session has no pass: within a call alone
abbrev pub no_pass : PassOf Entry
no_pass = record { book = record { words = 0; slots = 0; views_name = 0; atom = 0; block = 0; offset = 0; slot_names = [] }; number = 0; opening = []; seen = []; made = []; holds = 0 }

-- the replica stands, and the length that is kept is that of the history which the pass has seen
pub record IsSession (site : Site) (c : ClientState) (p : PassOf Entry) (seen : ℕ) (unpushed : List Up) : Type 0 where
  pub site_is : c.site ≡ site.0
  pub length_is : seen ≡ length (seen_by p)
  pub stands : ReplicaStands c p (entries_by site unpushed)
