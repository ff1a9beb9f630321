-- What a run keeps beside its room.
use Rattle.std.specs.Prelude.{ℕ, suc, ◌≡◌, ◌≤◌, ◌<◌, List, [], ◌∷◌, length, take, slice_get, Some, true}
use Rattle.ss_base.specs.declared.types.Size.{Size}
use Rattle.sheet_ops.specs.declared.operation.Entry.{Entry}
use Rattle.sheet_ops.specs.declared.operation.Effect.{Effect}
use Rattle.sheet_ops.specs.History.{own_entries, operations}
use Rattle.sheet_ops.specs.Published.{effect_at}
use Rattle.sheet_ops.specs.Identity.{IdSheet}
use Rattle.sheet_ops.specs.Placed.{placed}
use Rattle.sheet_ops.specs.Represents.{sheet_at}
use Rattle.sheet_grid.specs.Values.{placed_in}
use Rattle.full_calc.specs.Values.{value_table}
use Rattle.script_run.specs.declared.published.PublishedSheet.{PublishedSheet}
use Rattle.script_run.specs.declared.seat.Seat.{Seat}
use Rattle.script_run.specs.declared.room.Room.{Room}
use Rattle.script_run.specs.World.{World, seat_at}
use Rattle.script_run.specs.Rooms.{RoomRepresents}
use Rattle.script_run.specs.Places.{AreFound}

-- every entry is of one site
abbrev pub EachOf : ℕ → List Entry → Type 0
EachOf site [] = Unit {0}
EachOf site (e ∷ es) = (e.site.0 ≡ site) × EachOf site es

-- the own entries of a site: those pushed are its entries in the history, in order
pub record SeatStands (H : List Entry) (site : ℕ) (s : Seat) : Type 0 where
  pub pushed_in : s.pushed ≤ length s.made
  pub few : operations s.made ≤ 1000
  pub mine : own_entries site H ≡ take s.pushed s.made
  pub own : EachOf site s.made
  pub taken_in : s.taken ≤ length H

-- the effects that a history has, one for each entry
pub record AreEffectsOf (size : Size) (H : List Entry) (es : List Effect) : Type 0 where
  pub as_many : length es ≡ length H
  pub each : (k : ℕ) → k < length H → slice_get es k ≡ Some (effect_at size H k)

pub record IsRun (w : World) (effects : List Effect) (r : Room) : Type 0 where
  pub rows : w.size.rows ≤ 1000
  pub cols : w.size.cols ≤ 64
  pub few : length w.seats ≤ 8
  pub effects_of : AreEffectsOf w.size w.history effects
  pub seats : (p : ℕ) → p < length w.seats → SeatStands w.history (suc p) (seat_at w p)
  pub room : RoomRepresents w r

-- a sheet, and its values where those that are kept are current
pub record PublishedIs (X : IdSheet) (p : PublishedSheet) : Type 0 where
  pub sheet : placed X ≡ placed_in p.sheet
  pub values : p.is_current ≡ true → p.values ≡ value_table X

-- those after so many entries of the history
pub record PublishedStands (size : Size) (H : List Entry) (p : PublishedSheet) : Type 0 where
  pub within : p.length ≤ length H
  pub is : PublishedIs (sheet_at size H p.length) p

-- the whole of a run, with the places of its sites' names
pub record RunStands (w : World) (effects : List Effect) (r : Room) (p : PublishedSheet) (places : List (List ℕ × ℕ)) : Type 0 where
  pub run : IsRun w effects r
  pub published : PublishedStands w.size w.history p
  pub names : AreFound w.seats places
