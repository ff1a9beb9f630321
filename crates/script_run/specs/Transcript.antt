-- What a run prints.
use Rattle.std.specs.Prelude.{ℕ, List, [], ◌∷◌, ◌++◌, length, map, take}
use Rattle.std.specs.List.{range_with_len}
use Rattle.ss_base.specs.declared.types.Size.{Size}
use Rattle.sheet_ops.specs.declared.operation.Effect.{Effect}
use Rattle.sheet_ops.specs.declared.operation.Entry.{Entry}
use Rattle.sheet_ops.specs.Identity.{IdSheet}
use Rattle.sheet_ops.specs.History.{sheet_of}
use Rattle.sheet_ops.specs.Published.{effect_at}
use Rattle.sheet_value.specs.Tables.{Table}
use Rattle.full_calc.specs.Values.{value_table}
use Rattle.sheet_text.specs.Shown.{shown}
use Rattle.script_read.specs.declared.command.Command.{Command}
use Rattle.script_read.specs.declared.command.Command.TheVariants as command
use Rattle.sheet_text.specs.Texts.{sheet_text, head_text, server_head_text, refusal_of}
use Rattle.sheet_text.specs.Operations.{history_text, wire_text}
use Rattle.sheet_text.specs.Values.{all_text, range_values_text}
use Rattle.script_run.specs.World.{World, no_world, seat_index, seat_at, site_view, pending_at, decided, after_command}

-- the sheet that a site sees
abbrev pub show_text : World → ℕ → List ℕ
show_text w p = let S = shown (site_view w p) in sheet_text (head_text (seat_at w p).name (seat_at w p).taken (pending_at w p) S) S

-- the sheet of the history
abbrev pub server_text : World → List ℕ
server_text w = let S = shown (sheet_of w.size w.history) in sheet_text (server_head_text (length w.history) S) S

-- the sheet of the entries that are published, and its values; no proof looks into them but where it says so
abbrev pub published_sheet : World → IdSheet
published_sheet w = sheet_of w.size (take w.published w.history)

unfoldable pub published_values : World → Table
published_values w = value_table (published_sheet w)

-- the names of the sites, in the order in which they were declared
abbrev pub site_names : World → List (List ℕ)
site_names w = map (λ s. s.name) w.seats

-- what each entry of a history does to the sheet after the entries before it
abbrev pub effects : Size → List Entry → List Effect
effects size H = map (effect_at size H) (range_with_len 0 (length H))

-- what a command on a line prints
abbrev pub printed : World → ℕ → Command → List ℕ
printed w line (command.Edit name e) = let p = seat_index w name in refusal_of line (decided w p e)
printed w line (command.Read name range) = range_values_text line name range w.published (published_values w)
printed w line command.Values = all_text w.published (published_values w)
printed w line command.History = history_text (site_names w) w.history
printed w line command.Wire = wire_text (effects w.size w.history)
printed w line (command.Show name) = show_text w (seat_index w name)
printed w line command.ShowServer = server_text w
printed w line _ = []

-- commands with the numbers of their lines
abbrev pub transcript_from : World → List (ℕ × Command) → List ℕ
transcript_from w [] = []
transcript_from w (c ∷ cs) = printed w c.0 c.1 ++ transcript_from (after_command w c.1) cs

abbrev pub transcript : List (ℕ × Command) → List ℕ
transcript cs = transcript_from no_world cs
