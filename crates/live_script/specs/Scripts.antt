-- A script for running threads, and what each of its sites does.
use Rattle.std.specs.Prelude.{ℕ, Bool, true, false, if◌then◌else◌, List, [], ◌∷◌, map, Option, Some, None}
use Rattle.std.specs.Str.{bytes_eq}
use Rattle.ss_base.specs.declared.types.Size.{Size}
use Rattle.script_read.specs.declared.command.Command.{Command}
use Rattle.script_read.specs.declared.command.Command.TheVariants as command
use Rattle.script_read.specs.declared.script.ScriptKind.TheVariants as kind
use Rattle.script_read.specs.Script.{Script, Stop, script, refused_at}
use Rattle.live_script.specs.declared.script.Action.{Action}
use Rattle.live_script.specs.declared.script.Action.TheVariants as action
use Rattle.live_script.specs.declared.script.SiteLine.{SiteLine}
use Rattle.live_script.specs.declared.script.LiveScript.{LiveScript}

-- what prints or publishes for all sites at one moment isn't for running threads
abbrev pub is_for_threads : Command → Bool
is_for_threads (command.Recalc count) = false
is_for_threads command.Values = false
is_for_threads command.History = false
is_for_threads command.Wire = false
is_for_threads (command.Show name) = false
is_for_threads command.ShowServer = false
is_for_threads _ = true

-- the commands before the first one that isn't for running threads, at which the script stops
abbrev pub cut_live : List (ℕ × Command) → Stop → Script
cut_live [] stop = record { commands = []; stop = stop }
cut_live (c ∷ cs) stop =
    if is_for_threads c.1 then record { commands = c ∷ (cut_live cs stop).commands; stop = (cut_live cs stop).stop }
    else record { commands = []; stop = refused_at c.0 kind.NotLive }

abbrev pub live_script : List ℕ → Script
live_script bytes = cut_live (script bytes).commands (script bytes).stop

-- what a command has the site of a name do
abbrev pub only_for : List ℕ → List ℕ → Action → Option Action
only_for site name a = if bytes_eq site name then Some a else None

abbrev pub action_of : List ℕ → Command → Option Action
action_of site (command.Edit name e) = only_for site name (action.Edit e)
action_of site (command.Push name count) = only_for site name (action.Push count)
action_of site (command.Pull name count) = only_for site name (action.Pull count)
action_of site (command.Sync name) = only_for site name action.Sync
action_of site (command.Read name range) = only_for site name (action.Read range)
action_of site command.PushAll = Some (action.Push None)
action_of site command.PullAll = Some (action.Pull None)
action_of site _ = None

abbrev pub line_before : ℕ → Option Action → List SiteLine → List SiteLine
line_before n None ls = ls
line_before n (Some a) ls = record { number = n; action = a } ∷ ls

-- the lines of the site of a name
abbrev pub site_lines : List ℕ → List (ℕ × Command) → List SiteLine
site_lines site [] = []
site_lines site (c ∷ cs) = line_before c.0 (action_of site c.1) (site_lines site cs)

-- the name that a command declares, and the names that are declared, in order
abbrev pub site_named : Command → Option (List ℕ)
site_named (command.Site name) = Some name
site_named _ = None

abbrev pub name_before : Option (List ℕ) → List (List ℕ) → List (List ℕ)
name_before None names = names
name_before (Some name) names = name ∷ names

abbrev pub names_in : List (ℕ × Command) → List (List ℕ)
names_in [] = []
names_in (c ∷ cs) = name_before (site_named c.1) (names_in cs)

-- the size that a command gives, and the first one that is given, which is that of the `sheet` line
abbrev pub size_given : Command → Option Size
size_given (command.Sheet size) = Some size
size_given _ = None

abbrev pub size_before : Option Size → Size → Size
size_before None size = size
size_before (Some given) size = given

abbrev pub size_in : List (ℕ × Command) → Size
size_in [] = record { rows = 0; cols = 0 }
size_in (c ∷ cs) = size_before (size_given c.1) (size_in cs)

-- commands by sites
abbrev pub by_sites : List (ℕ × Command) → LiveScript
by_sites cs = record { size = size_in cs; sites = map (λ (name : List ℕ). record { name = name; lines = site_lines name cs }) (names_in cs) }
