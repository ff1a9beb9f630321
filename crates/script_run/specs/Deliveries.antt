-- What the messages between a site and the server want.
use Rattle.std.specs.Prelude.{ℕ, ◌≡◌, ◌≤◌, ◌<◌, List, length}
use Rattle.ss_base.specs.Lists.{IsPrefixOf}
use Rattle.sheet_ops.specs.declared.operation.Entry.{Entry}
use Rattle.sheet_ops.specs.declared.operation.Effect.{Effect}
use Rattle.sheet_ops.specs.History.{own_entries, IsValidHistory}
use Rattle.sheet_ops.specs.Represents.{ClientState, ClientRepresents, ServerState, ServerRepresents}
use Rattle.script_run.specs.declared.seat.Seat.{Seat}
use Rattle.script_run.specs.Rooms.{ClientStands}
use Rattle.script_run.specs.Runs.{SeatStands, AreEffectsOf}

-- the site has an own entry that the server's history lacks, and its client represents that history
pub record MaySubmit (s : ServerState) (site : ℕ) (seat : Seat) : Type 0 where
  pub history : List Entry
  pub client : ClientState
  pub server : ServerRepresents s history
  pub stands : ClientStands s.size history site seat client
  pub holds : SeatStands history site seat
  pub from : 0 < site
  pub to : site ≤ s.sites
  pub more : seat.pushed < length seat.made

-- the client lacks an entry of a valid history that it represents
pub record MayPull (c : ClientState) (site : ℕ) (H : List Entry) (effects : List Effect) : Type 0 where
  pub sites : ℕ
  pub made : List Entry
  pub valid : IsValidHistory c.size sites H
  pub represents : ClientRepresents c H made
  pub number : c.site ≡ site
  pub more : c.taken < length H
  pub mine : IsPrefixOf (own_entries site H) made
  pub effects_of : AreEffectsOf c.size H effects
  pub rows : c.size.rows ≤ 1000
  pub cols : c.size.cols ≤ 64
  pub few : sites ≤ 8
