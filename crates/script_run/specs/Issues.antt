-- What an edit of a site does to its seat and its client.
use Rattle.std.specs.Prelude.{◌≡◌, [], ◌∷◌, ◌++◌, Result, Ok}
use Rattle.ss_base.specs.declared.types.Site.{Site}
use Rattle.sheet_ops.specs.declared.edit.Edit.{Edit}
use Rattle.sheet_ops.specs.declared.edit.EditErr.{EditErr}
use Rattle.sheet_ops.specs.declared.operation.Entry.{Entry}
use Rattle.sheet_ops.specs.declared.operation.Intent.{Intent}
use Rattle.sheet_ops.specs.Identity.{IdSheet}
use Rattle.sheet_ops.specs.Fits.{IsWellFormed}
use Rattle.sheet_ops.specs.Placed.{placed}
use Rattle.sheet_ops.specs.Represents.{ClientState}
use Rattle.author_ops.specs.Edits.{intended}
use Rattle.sort_keys.specs.Keys.{keys_of}
use Rattle.script_run.specs.declared.seat.Seat.{Seat}
use Rattle.client_edits.specs.Decided.{Decides}

-- the entry of an own intent
abbrev pub entry_made : Site → Seat → Intent → Entry
entry_made site s op = record { site = site; seen = s.taken; intent = op }

abbrev pub seat_issued : Site → Seat → Intent → Seat
seat_issued site s op = record s { made = s.made ++ entry_made site s op ∷ [] }

pub record Issues (site : Site) (e : Edit) (s s' : Seat) (c c' : ClientState) : Type 0 where
  pub intent : Intent
  pub decided : Decides c e (Ok intent)
  pub seat : s' ≡ seat_issued site s intent
  pub number : c'.site ≡ c.site
  pub sized : c'.size ≡ c.size
  pub taken : c'.taken ≡ c.taken
