-- What the lines so far came to, and what each of the next lines makes of it.
use Rattle.std.specs.Prelude.{ℕ, ◌≡◌, ◌≤◌, ◌<◌, Bool, true, false, if◌then◌else◌, List, [], ◌∷◌, ◌++◌, length, map, Option, Some, None, is_some, Result, Ok, Err}
use Rattle.std.specs.List.{All}
use Rattle.std.specs.Str.{bytes_eq}
use Rattle.ss_base.specs.declared.types.Size.{Size}
use Rattle.script_read.specs.declared.command.Command.{Command}
use Rattle.script_read.specs.declared.command.Command.TheVariants as command
use Rattle.script_read.specs.declared.script.ScriptKind.{ScriptKind}
use Rattle.script_read.specs.declared.script.ScriptKind.TheVariants as kind
use Rattle.script_read.specs.Commands.{command_of, EditWithin, CommandWithin}
use Rattle.script_read.specs.Script.{Stop, Declared, LineTurn, goes, stops, ended, too_long, refused, refused_at, nothing_declared, fault_of, declared_with, turn_of, turn_of_line}
use Rattle.live_script.specs.declared.script.Action.{Action}
use Rattle.live_script.specs.declared.script.Action.TheVariants as action
use Rattle.live_script.specs.declared.script.SiteLine.{SiteLine}
use Rattle.live_script.specs.declared.script.SiteScript.{SiteScript}
use Rattle.live_script.specs.declared.script.LiveScript.{LiveScript}
use Rattle.live_script.specs.declared.script.LiveStop.{LiveStop}
use Rattle.live_script.specs.declared.script.LiveStop.TheVariants as stop
use Rattle.live_script.specs.declared.lines.ForAll.{ForAll}
use Rattle.live_script.specs.declared.lines.ForAll.TheVariants as for_all
use Rattle.live_script.specs.declared.flow.Flow.{Flow}
use Rattle.live_script.specs.declared.flow.Flow.TheVariants as flow
use Rattle.live_script.specs.Scripts.{is_for_threads, line_before, action_of, names_in, by_sites}

-- what is declared, and the script of the sites that are
pub record SoFar : Type 0 where
  pub declared : Declared
  pub script : LiveScript

abbrev pub declared_by : Bool → List SiteScript → Bool → Declared
declared_by sheet sites closed = record { sheet = sheet; sites = map (λ (s : SiteScript). s.name) sites; closed = closed }

abbrev pub size_or_none : Option Size → Size
size_or_none None = record { rows = 0; cols = 0 }
size_or_none (Some size) = size

abbrev pub so_far : Option Size → List SiteScript → Bool → SoFar
so_far size sites closed = record { declared = declared_by (is_some size) sites closed; script = record { size = size_or_none size; sites = sites } }

abbrev pub nothing_so_far : SoFar
nothing_so_far = so_far None [] false

-- the first kind of fault that fits a command here, where what isn't for running threads is refused
abbrev pub only_live : Command → Option ScriptKind → Option ScriptKind
only_live c None = if is_for_threads c then None else Some kind.NotLive
only_live c (Some k) = Some k

abbrev pub live_fault : Declared → Command → Option ScriptKind
live_fault d c = only_live c (fault_of d c)

-- the turn of a line here
abbrev pub live_turn : ℕ → LineTurn → LineTurn
live_turn n (stops s) = stops s
live_turn n (goes d c) = if is_for_threads c then goes d c else stops (refused_at n kind.NotLive)

abbrev pub ends_script : Command → Bool
ends_script command.End = true
ends_script _ = false

-- what is declared after commands
abbrev pub declared_from : Declared → List (ℕ × Command) → Declared
declared_from d [] = d
declared_from d (c ∷ cs) = declared_from (declared_with d c.1) cs

-- no name stands twice
abbrev pub NamesDiffer : List (List ℕ) → Type 0
NamesDiffer [] = Unit {0}
NamesDiffer (name ∷ names) = All (λ (later : List ℕ). bytes_eq later name ≡ false) names × NamesDiffer names

-- the cells of a range that is read have addresses: row numbers have at most 7 digits, and columns at most 3 letters
abbrev pub CommandAddressed : Command → Type 0
CommandAddressed (command.Read name range) = (range.bottom < 9999999) × (range.right < 18278)
CommandAddressed _ = Unit {0}

-- these are the commands so far
pub record IsSoFar (cs : List (ℕ × Command)) (s : SoFar) : Type 0 where
  pub declared : s.declared ≡ declared_from nothing_declared cs
  pub script : s.script ≡ by_sites cs
  pub apart : NamesDiffer (names_in cs)
  pub few : length (names_in cs) ≤ 8
  pub within : All (λ (c : ℕ × Command). CommandWithin 4096 c.1) cs
  pub addressed : All (λ (c : ℕ × Command). CommandAddressed c.1) cs

-- an action is added to a site that it is for
abbrev pub with_action : ℕ → (List ℕ → Option Action) → SiteScript → SiteScript
with_action n what s = record { name = s.name; lines = s.lines ++ line_before n (what s.name) [] }

-- and so is a command's line
abbrev pub with_line : ℕ → Command → SiteScript → SiteScript
with_line n c s = with_action n (λ (site : List ℕ). action_of site c) s

-- what a command that is for all has each site do
abbrev pub action_for_all : ForAll → Action
action_for_all for_all.Push = action.Push None
action_for_all for_all.Pull = action.Pull None

-- a site is added, without a line
abbrev pub AddsSite : SoFar → SoFar → List ℕ → Type 0
AddsSite old new name = new ≡ record old { declared = record old.declared { sites = old.declared.sites ++ name ∷ [] }; script = record old.script { sites = old.script.sites ++ record { name = name; lines = [] } ∷ [] } }

-- What a line gives, by its turn. One that goes on adds its command.
abbrev pub TurnAdds : SoFar → SoFar → ℕ → LineTurn → Result Flow LiveStop → Type 0
TurnAdds old new n turn (Ok flow.GoesOn) = (c : Command) × (turn ≡ goes (declared_with old.declared c) c) × ((cs : List (ℕ × Command)) → IsSoFar cs old → IsSoFar (cs ++ (n, c) ∷ []) new)
TurnAdds old new n turn (Ok flow.Ended) = (turn ≡ stops ended) × (new ≡ old) × (old.declared.sheet ≡ true)
TurnAdds old new n turn (Err (stop.Script err)) = turn ≡ stops (refused err)
TurnAdds old new n turn (Err stop.Memory) = Unit {0}
TurnAdds old new n turn (Err _) = ⊥

abbrev pub CommandAdds : SoFar → SoFar → ℕ → Command → Result Flow LiveStop → Type 0
CommandAdds old new n c r = TurnAdds old new n (live_turn n (turn_of old.declared n c)) r

abbrev pub LineAdds : SoFar → SoFar → ℕ → List ℕ → Result Flow LiveStop → Type 0
LineAdds old new n line r = TurnAdds old new n (live_turn n (turn_of_line old.declared n (command_of line))) r

-- an answer that tells where a script stops tells the stop of this one
abbrev pub TellsStop : Stop → LiveStop → Type 0
TellsStop s (stop.Script err) = s ≡ refused err
TellsStop s (stop.TooLong line) = s ≡ too_long line
TellsStop s stop.ReadFault = Unit {0}
TellsStop s stop.Memory = Unit {0}

-- an entry has at most 4,096 bytes, ranges and rows are in order, and the cells of a range that is read have addresses
abbrev pub ActionWithin : Action → Type 0
ActionWithin (action.Edit e) = EditWithin 4096 e
ActionWithin (action.Read range) = (range.top ≤ range.bottom) × (range.left ≤ range.right) × (range.bottom < 9999999) × (range.right < 18278)
ActionWithin _ = Unit {0}

abbrev pub LinesWithin : List SiteLine → Type 0
LinesWithin lines = All (λ (l : SiteLine). ActionWithin l.action) lines

-- A script that may run: its sheet has 1 to 1,000 rows and 1 to 64 columns, at most 8 sites have names of their own, and each line
-- is within.
pub record IsOpened (s : LiveScript) : Type 0 where
  pub rows : (1 ≤ s.size.rows) × (s.size.rows ≤ 1000)
  pub cols : (1 ≤ s.size.cols) × (s.size.cols ≤ 64)
  pub few : length s.sites ≤ 8
  pub apart : NamesDiffer (map (λ (site : SiteScript). site.name) s.sites)
  pub within : All (λ (site : SiteScript). LinesWithin site.lines) s.sites
