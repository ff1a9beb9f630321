-- The state that a generated run leads to, and how many of its edits are refused.
use Rattle.std.specs.Prelude.{ℕ, ◌+◌, ◌≡◌, List, [], ◌∷◌, map, fold, Result, Ok, Err}
use Rattle.std.specs.List.{range_with_len}
use Rattle.sheet_ops.specs.declared.edit.EditErr.{EditErr}
use Rattle.sheet_ops.specs.declared.operation.Intent.{Intent}
use Rattle.script_read.specs.declared.command.Command.{Command}
use Rattle.script_read.specs.declared.command.Command.TheVariants as command
use Rattle.script_run.specs.World.{World, no_world, new_seat, seat_index, decided, after_command}
use Rattle.script_run.specs.Transcript.{site_names}
use Rattle.generated_run.specs.Turns.{site_name, generated_commands}

-- the state after some commands, as a script of them leads to it
abbrev pub after_commands : World → List Command → World
after_commands w cs = fold after_command w cs

unfoldable pub generated_world : ℕ → World
generated_world number = after_commands no_world (generated_commands number)

-- an edit counts where it is refused in the state before it
abbrev pub one_if_refused : Result Intent EditErr → ℕ
one_if_refused (Ok op) = 0
one_if_refused (Err e) = 1

abbrev pub refused_by : World → Command → ℕ
refused_by w (command.Edit name e) = one_if_refused (decided w (seat_index w name) e)
refused_by w _ = 0

abbrev pub refused_among : World → List Command → ℕ
refused_among w [] = 0
refused_among w (c ∷ cs) = refused_by w c + refused_among (after_command w c) cs

unfoldable pub generated_refusals : ℕ → ℕ
generated_refusals number = refused_among no_world (generated_commands number)

-- ---- inside a run

-- the sheet and so many sites, before any edit
abbrev pub opened_with : ℕ → World
opened_with sites = record no_world { size = record { rows = 40; cols = 8 }; seats = map (λ place. new_seat (site_name place)) (range_with_len 0 sites) }

-- the eight sites are there
abbrev pub HasSites : World → Type 0
HasSites w = site_names w ≡ map site_name (range_with_len 0 8)
