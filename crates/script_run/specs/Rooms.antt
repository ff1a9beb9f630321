-- What the server and the clients of a run represent.
use Rattle.std.specs.Prelude.{ℕ, suc, ◌≡◌, List, length, slice_get, Some}
use Rattle.ss_base.specs.declared.types.Size.{Size}
use Rattle.sheet_ops.specs.declared.operation.Entry.{Entry}
use Rattle.sheet_ops.specs.Represents.{ClientState, ClientRepresents, ServerRepresents}
use Rattle.script_run.specs.declared.seat.Seat.{Seat}
use Rattle.script_run.specs.declared.room.Room.{Room}
use Rattle.script_run.specs.World.{World, seat_at, site_count}

-- The client of a site beside what the site has: it has taken as many entries of the history, and represents the history
-- with the site's own entries.
pub record ClientStands (size : Size) (H : List Entry) (site : ℕ) (s : Seat) (c : ClientState) : Type 0 where
  pub number : c.site ≡ site
  pub sized : c.size ≡ size
  pub taken : c.taken ≡ s.taken
  pub represents : ClientRepresents c H s.made

-- the server represents the history, and the client of each site that site
pub record RoomRepresents (w : World) (r : Room) : Type 0 where
  pub sized : r.server.size ≡ w.size
  pub sites : r.server.sites ≡ site_count w
  pub server : ServerRepresents r.server w.history
  pub as_many : length r.clients ≡ length w.seats
  pub clients : (p : ℕ) (c : ClientState) → slice_get r.clients p ≡ Some c → ClientStands w.size w.history (suc p) (seat_at w p) c
