-- What is published never goes back.
use Rattle.std.specs.Prelude.{ℕ, ◌≡◌, ◌≤◌, List, ◌++◌, length}
use Rattle.script_read.specs.declared.command.Command.{Command}
use Rattle.script_run.specs.World.{World, seat_at, world_after}

-- a beginning of the history is published, and no reader saw a longer one
pub record IsPublishing (w : World) : Type 0 where
  pub within : w.published ≤ length w.history
  pub seen : (p : ℕ) → (seat_at w p).read ≤ w.published

-- at each command of a script
abbrev pub NeverGoesBack : List (ℕ × Command) → Type 0
NeverGoesBack cs = (done rest : List (ℕ × Command)) → done ++ rest ≡ cs → IsPublishing (world_after done)
