-- What one line does to a script's state.
use Rattle.std.specs.Prelude.{ℕ, ◌≡◌, Bool, true, false, List, [], map, Option, Some, None, is_some, length, ◌<◌, ◌≤◌}
use Rattle.script_read.specs.declared.command.Command.{Command}
use Rattle.script_read.specs.declared.command.Command.TheVariants as command
use Rattle.script_read.specs.Commands.{command_of, EditWithin}
use Rattle.script_read.specs.Script.{Declared, nothing_declared, LineTurn, goes, stops, ended, refused, declared_with, turn_of, turn_of_line}
use Rattle.script_run.specs.declared.state.Outcome.{Outcome}
use Rattle.script_run.specs.declared.state.Outcome.TheVariants as outcome
use Rattle.script_run.specs.Transcript.{printed}
use Rattle.script_run.specs.World.{World, no_world, place_in, after_command}

-- what the lines so far have declared, and the state of the run
pub record RunState : Type 0 where
  pub declared : Declared
  pub world : World

abbrev pub first_table : RunState
first_table = record { declared = nothing_declared; world = no_world }

-- by the run, which the `sheet` line opens, and by whether no site may follow
abbrev pub run_state_of : Option World → Bool → RunState
run_state_of None closed = record { declared = record { sheet = false; sites = []; closed = closed }; world = no_world }
run_state_of (Some w) closed = record { declared = record { sheet = true; sites = map (λ s. s.name) w.seats; closed = closed }; world = w }

-- before a line that closes the declarations there is no entry
abbrev pub IsState : Option World → Bool → Type 0
IsState run closed = closed ≡ false → (run_state_of run closed).world.history ≡ []

-- By the turn that a line comes to. A line that ends the script, or is refused, leaves the state.
abbrev pub Gives : RunState → RunState → ℕ → LineTurn → Outcome → Type 0
Gives old new n turn (outcome.Goes text) = (c : Command) × (turn ≡ goes new.declared c) × (text ≡ printed old.world n c) × (new.world ≡ after_command old.world c)
Gives old new n turn outcome.Ended = (turn ≡ stops ended) × (new ≡ old)
Gives old new n turn (outcome.Refused err) = (turn ≡ stops (refused err)) × (new ≡ old)

abbrev pub CommandGives : RunState → RunState → ℕ → Command → Outcome → Type 0
CommandGives old new n c o = Gives old new n (turn_of old.declared n c) o

abbrev pub TurnGives : RunState → RunState → ℕ → List ℕ → Outcome → Type 0
TurnGives old new n line o = Gives old new n (turn_of_line old.declared n (command_of line)) o

-- a command that a run may do: not the `sheet` line, which opens one; the sites that it names are there, and one that it
-- adds has room
abbrev pub HasSite : World → List ℕ → Type 0
HasSite w name = is_some (place_in w.seats name) ≡ true

abbrev pub MayStep : World → Command → Type 0
MayStep w (command.Sheet size) = ⊥
MayStep w (command.Site name) = (length w.seats < 8) × (w.history ≡ [])
MayStep w (command.Edit name e) = HasSite w name × EditWithin 4096 e
MayStep w (command.Push name n) = HasSite w name
MayStep w (command.Pull name n) = HasSite w name
MayStep w (command.Sync name) = HasSite w name
MayStep w (command.Read name range) = HasSite w name × (range.top ≤ range.bottom) × (range.left ≤ range.right)
MayStep w (command.Show name) = HasSite w name
MayStep w _ = Unit {0}

-- a command that goes on
abbrev pub StepGives : RunState → RunState → ℕ → Command → List ℕ → Type 0
StepGives old new n c text = (text ≡ printed old.world n c) × (new.declared ≡ declared_with old.declared c) × (new.world ≡ after_command old.world c)

-- the run that a command opens before there is one
abbrev pub run_opened : Command → Option World
run_opened (command.Sheet size) = Some (record no_world { size = size })
run_opened _ = None

-- whether no site may be declared behind a command
abbrev pub closes : Command → Bool
closes command.Note = false
closes (command.Sheet size) = false
closes (command.Site name) = false
closes _ = true

abbrev pub is_end : Command → Bool
is_end command.End = true
is_end _ = false
