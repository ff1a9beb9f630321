-- The state of a run: one history, and what each site has. One command is one step of it.
use Rattle.std.specs.Prelude.{ℕ, zero, suc, ◌+◌, ◌-◌, min, max, List, [], ◌∷◌, ◌++◌, length, take, drop, Option, Some, None, Result, Ok, Err, slice_index_or, slice_set, position, unwrap_or}
use Rattle.std.specs.Str.{bytes_eq}
use Rattle.ss_base.specs.declared.types.Size.{Size}
use Rattle.sheet_ops.specs.declared.edit.Edit.{Edit}
use Rattle.sheet_ops.specs.declared.edit.EditErr.{EditErr}
use Rattle.sheet_ops.specs.declared.operation.Entry.{Entry}
use Rattle.sheet_ops.specs.declared.operation.Intent.{Intent}
use Rattle.sheet_ops.specs.Identity.{IdSheet}
use Rattle.sheet_ops.specs.History.{own_entries, operations, view}
use Rattle.author_ops.specs.Edits.{intended}
use Rattle.sort_keys.specs.Keys.{keys_of}
use Rattle.client_edits.specs.Decided.{unless_spent}
use Rattle.script_read.specs.declared.command.Command.{Command}
use Rattle.script_read.specs.declared.command.Command.TheVariants as command
use Rattle.script_run.specs.declared.seat.Seat.{Seat}

-- The size of the sheet, the history, how many of its entries are published, and what each site has. The seats stand in the order
-- in which the sites were declared; site number i has the place i - 1.
pub record World : Type 0 where
  pub size : Size
  pub history : List Entry
  pub published : ℕ
  pub seats : List Seat

abbrev pub no_world : World
no_world = record { size = record { rows = 0; cols = 0 }; history = []; published = 0; seats = [] }

abbrev pub new_seat : List ℕ → Seat
new_seat name = record { name = name; made = []; pushed = 0; taken = 0; read = 0 }

-- the place of the site with this name, if there is one
abbrev pub place_in : List Seat → List ℕ → Option ℕ
place_in seats name = position (λ s. bytes_eq name s.name) seats

abbrev pub seat_index : World → List ℕ → ℕ
seat_index w name = unwrap_or (place_in w.seats name) 0

abbrev pub seat_at : World → ℕ → Seat
seat_at w p = slice_index_or w.seats p (new_seat [])

abbrev pub put_seat : World → ℕ → Seat → World
put_seat w p s = record w { seats = slice_set w.seats p s }

-- what a site sees: the part of the history that it has taken, then its own entries that are not in it
abbrev pub site_view : World → ℕ → IdSheet
site_view w p = let s = seat_at w p in view w.size w.history (suc p) s.taken s.made

-- how many of its own entries are not in the part that it has taken
abbrev pub pending_at : World → ℕ → ℕ
pending_at w p = let s = seat_at w p in length s.made - length (own_entries (suc p) (take s.taken w.history))

-- what an edit of a site comes to on what the site sees
abbrev pub decided : World → ℕ → Edit → Result Intent EditErr
decided w p e = let X = site_view w p in unless_spent (operations (seat_at w p).made) (intended X e (keys_of X e))

abbrev pub after_decided : World → ℕ → Result Intent EditErr → World
after_decided w p (Err e) = w
after_decided w p (Ok op) =
    let s = seat_at w p in
    put_seat w p (record s { made = s.made ++ record { site = record { 0 = suc p }; seen = s.taken; intent = op } ∷ [] })

-- how many sites the server is for: one where none is declared
abbrev pub site_count : World → ℕ
site_count w = max 1 (length w.seats)

-- a number that is asked for, or all that is left
abbrev pub at_most : Option ℕ → ℕ → ℕ
at_most None left = left
at_most (Some n) left = min n left

-- the next own entries go to the end of the history
abbrev pub pushed : World → ℕ → Option ℕ → World
pushed w p n =
    let s = seat_at w p in
    let count = at_most n (length s.made - s.pushed) in
    put_seat (record w { history = w.history ++ take count (drop s.pushed s.made) }) p (record s { pushed = s.pushed + count })

-- the next entries of the history are taken
abbrev pub pulled : World → ℕ → Option ℕ → World
pulled w p n = let s = seat_at w p in put_seat w p (record s { taken = s.taken + at_most n (length w.history - s.taken) })

-- the next entries of the history are published
abbrev pub recalculated : World → Option ℕ → World
recalculated w n = record w { published = w.published + at_most n (length w.history - w.published) }

-- a site pushes all, and then all of the history is published
abbrev pub synced : World → ℕ → World
synced w p = recalculated (pushed w p None) None

-- a site reads what is published
abbrev pub reading : World → ℕ → World
reading w p = put_seat w p (record (seat_at w p) { read = w.published })

-- the sites one after another, so many from a place on
abbrev pub at_each : (World → ℕ → World) → ℕ → ℕ → World → World
at_each does p zero w = w
at_each does p (suc count) w = at_each does (suc p) count (does w p)

abbrev pub each_pushed : World → World
each_pushed w = at_each (λ v p. pushed v p None) 0 (length w.seats) w

abbrev pub each_pulled : World → World
each_pulled w = at_each (λ v p. pulled v p None) 0 (length w.seats) w

-- those that were added before a site are done, that site as far as so many entries, and those behind it not at all
abbrev pub pushed_up_to : World → ℕ → ℕ → World
pushed_up_to w place count = pushed (at_each (λ v p. pushed v p None) 0 place w) place (Some count)

abbrev pub pulled_up_to : World → ℕ → ℕ → World
pulled_up_to w place count = pulled (at_each (λ v p. pulled v p None) 0 place w) place (Some count)

-- the state after a command
abbrev pub after_command : World → Command → World
after_command w command.Note = w
after_command w (command.Sheet size) = record w { size = size }
after_command w (command.Site name) = record w { seats = w.seats ++ new_seat name ∷ [] }
after_command w (command.Edit name e) = let p = seat_index w name in after_decided w p (decided w p e)
after_command w (command.Push name n) = pushed w (seat_index w name) n
after_command w (command.Pull name n) = pulled w (seat_index w name) n
after_command w command.PushAll = each_pushed w
after_command w command.PullAll = each_pulled w
after_command w (command.Sync name) = synced w (seat_index w name)
after_command w (command.Recalc n) = recalculated w n
after_command w (command.Read name range) = reading w (seat_index w name)
after_command w command.Values = w
after_command w command.History = w
after_command w command.Wire = w
after_command w (command.Show name) = w
after_command w command.ShowServer = w
after_command w command.End = w

-- the state after some commands with the numbers of their lines
abbrev pub after_all : World → List (ℕ × Command) → World
after_all w [] = w
after_all w (c ∷ cs) = after_all (after_command w c.1) cs

abbrev pub world_after : List (ℕ × Command) → World
world_after cs = after_all no_world cs
