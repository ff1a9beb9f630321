-- What an edit denotes on the sheet that its author sees.
use Rattle.std.specs.Prelude.{ℕ, ◌≡◌, ◌-◌, ◌*◌, ◌^◌, ◌<◌, ◌≤◌, min, nat_eq, nat_lt, ◌&&◌, Bool, if◌then◌else◌, List, [], ◌∷◌, length, take, drop, slice_get, Option, Some, None, Result, Ok, Err}
use Rattle.std.specs.Option.{option_and_then, option_map}
use Rattle.ss_base.specs.declared.types.Spot.{Spot}
use Rattle.ss_base.specs.declared.types.Span.{Span}
use Rattle.marked_lines.specs.Marks.{visible_count, visible_places}
use Rattle.sheet_value.specs.declared.value.Value.{Value}
use Rattle.sheet_ops.specs.declared.content.Content.{Content}
use Rattle.sheet_ops.specs.declared.content.Content.TheVariants as content
use Rattle.sheet_ops.specs.declared.operation.Intent.{Intent}
use Rattle.sheet_ops.specs.declared.operation.Intent.TheVariants as intent
use Rattle.sheet_ops.specs.declared.edit.Edit.{Edit}
use Rattle.sheet_ops.specs.declared.edit.Edit.TheVariants as edit
use Rattle.sheet_ops.specs.declared.edit.EditErr.{EditErr}
use Rattle.sheet_ops.specs.declared.edit.EditErr.TheVariants as fault
use Rattle.sheet_ops.specs.Lines.{marks}
use Rattle.sheet_ops.specs.Identity.{IdSheet}
use Rattle.sheet_ops.specs.Placed.{PlacedSheet, placed}
use Rattle.sheet_ops.specs.Weights.{weight_of_intent}
use Rattle.author_ops.specs.Entries.{entered}
use Rattle.author_ops.specs.Copies.{line_count, are_seen, copied_puts}
use Rattle.author_ops.specs.Orders.{places_sorted}

-- the positions of a cell by its visible indexes
abbrev pub place_seen : List Bool → List Bool → Spot → Option (ℕ × ℕ)
place_seen rows cols spot =
    option_and_then (λ row. option_map (λ col. (row, col)) (slice_get (visible_places cols) spot.col)) (slice_get (visible_places rows) spot.row)

-- a write of one cell by its positions
abbrev pub write_one : ℕ × ℕ → Content → Intent
write_one place what = intent.Write (record { row = place.0; col = place.1; content = what } ∷ [])

-- an operation with a weight above 512 is refused; 2^32 - 1 is told for all weights above it
abbrev pub unless_heavy : Intent → Result Intent EditErr
unless_heavy op =
    if nat_lt 512 (weight_of_intent op) then Err (fault.Heavy (min (weight_of_intent op) (2 ^ 32 - 1))) else Ok op

-- a write into a cell, unless it isn't in the visible sheet, or what would stand there is refused
abbrev pub written_at : Option (ℕ × ℕ) → Result Content EditErr → Result Intent EditErr
written_at None what = Err fault.OutOfSheet
written_at (Some place) (Err e) = Err e
written_at (Some place) (Ok what) = unless_heavy (write_one place what)

-- what is done at a line, unless it isn't in the visible sheet
abbrev pub done_at : (ℕ → Intent) → Option ℕ → Result Intent EditErr
done_at op None = Err fault.OutOfSheet
done_at op (Some p) = Ok (op p)

-- an insertion stands immediately before the slot of a visible line, and for the visible count at the end of all slots,
-- hidden ones too
abbrev pub insertion_place : List Bool → ℕ → Option ℕ
insertion_place marks v = if nat_eq v (visible_count marks) then Some (length marks) else slice_get (visible_places marks) v

-- a copy, unless a source or a target isn't in the visible sheet, or it has more than 128 cells, or it is too heavy
abbrev pub copy_on : IdSheet → Span → Spot → Result Intent EditErr
copy_on X from to =
    let count = line_count from.top from.bottom * line_count from.left from.right in
    if are_seen (marks X.rows) from.top from.bottom to.row && are_seen (marks X.cols) from.left from.right to.col
    then (if nat_lt 128 count then Err (fault.CopyLarge count) else unless_heavy (intent.Write (copied_puts X from to)))
    else Err fault.OutOfSheet

-- a sort of the visible rows from a first to a last one by their keys, given the marks of all rows, unless they aren't all in the visible sheet, or
-- are more than 1,024: its slots are those rows, and its records those standing there, in the order of their keys
abbrev pub sort_on : List Bool → ℕ → ℕ → List Value → Bool → Result Intent EditErr
sort_on rows first last keys down =
    let count = line_count first last in
    let slots = take count (drop first (visible_places rows)) in
    if nat_lt last (visible_count rows)
    then (if nat_lt 1024 count then Err (fault.SortLong count) else Ok (intent.Sort slots (places_sorted down slots keys)))
    else Err fault.OutOfSheet

-- the same, unless the column that the keys stand in isn't in the visible sheet
abbrev pub sort_by : List Bool → List Bool → ℕ → ℕ → ℕ → List Value → Bool → Result Intent EditErr
sort_by rows cols first last col keys down = if nat_lt col (visible_count cols) then sort_on rows first last keys down else Err fault.OutOfSheet

-- What an edit denotes on a sheet: an intent by positions, or why it is refused. The keys are those of a sort's rows, one
-- for each.
abbrev pub intended : IdSheet → Edit → List Value → Result Intent EditErr
intended X (edit.Set spot entry) keys = written_at (place_seen (marks X.rows) (marks X.cols) spot) (entered (marks X.rows) (marks X.cols) entry)
intended X (edit.Clear spot) keys = written_at (place_seen (marks X.rows) (marks X.cols) spot) (Ok content.Empty)
intended X (edit.InsRow before) keys = done_at intent.InsRow (insertion_place (marks X.rows) before)
intended X (edit.InsCol before) keys = done_at intent.InsCol (insertion_place (marks X.cols) before)
intended X (edit.DelRow at) keys = done_at intent.DelRow (slice_get (visible_places (marks X.rows)) at)
intended X (edit.DelCol at) keys = done_at intent.DelCol (slice_get (visible_places (marks X.cols)) at)
intended X (edit.Copy from to) keys = copy_on X from to
intended X (edit.Sort first last col down) keys = sort_by (marks X.rows) (marks X.cols) first last col keys down

-- whatever the lines of a sheet are called, this is what an edit denotes on it
abbrev pub Denotes : PlacedSheet → Edit → List Value → Result Intent EditErr → Type 0
Denotes P e keys r = (X : IdSheet) → placed X ≡ P → intended X e keys ≡ r

-- what an author sees to: texts have fewer than 2^24 bytes, ranges and rows are in order, and there is one key a row
abbrev pub IsProper : PlacedSheet → Edit → List Value → Type 0
IsProper P (edit.Set spot entry) keys = length entry < 2 ^ 24
IsProper P (edit.Clear spot) keys = Unit {0}
IsProper P (edit.InsRow before) keys = Unit {0}
IsProper P (edit.InsCol before) keys = Unit {0}
IsProper P (edit.DelRow at) keys = Unit {0}
IsProper P (edit.DelCol at) keys = Unit {0}
IsProper P (edit.Copy from to) keys = (from.top ≤ from.bottom) × (from.left ≤ from.right)
IsProper P (edit.Sort first last col down) keys = (first ≤ last) × (last < visible_count P.rows → col < visible_count P.cols → length keys ≡ line_count first last)
