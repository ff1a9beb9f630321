-- References by positions replaced by those by numbers.
use Rattle.std.specs.Prelude.{ℕ, ◌≤◌, nat_lt, Bool, if◌then◌else◌, length, List, All, slice_get, Option, None, Some}
use Rattle.std.specs.Option.{option_and_then, option_map}
use Rattle.ss_base.specs.declared.types.Span.{Span}
use Rattle.formula_tree.specs.Remap.{Images, EachReference}
use Rattle.sheet_ops.specs.declared.content.Content.{Content}
use Rattle.sheet_ops.specs.declared.content.Content.TheVariants as content
use Rattle.sheet_ops.specs.declared.content.Put.{Put}
use Rattle.sheet_ops.specs.declared.operation.Effect.{Effect}
use Rattle.sheet_ops.specs.declared.operation.Effect.TheVariants as effect
use Rattle.sheet_ops.specs.LineIds.{opening_id}
use Rattle.sheet_ops.specs.Lines.{rec_place, slot_place}
use Rattle.sheet_ops.specs.Identity.{IdSheet}
use Rattle.sheet_ops.specs.Naming.{locate_content}
use Rattle.sheet_grid.specs.Kept.{NumberedAxis, axis, content_meant, by_numbers, IsKeptAxis, rec_number, content_numbered}

abbrev pub IsAxis : NumberedAxis → Type 0
IsAxis k = (slot_places rec_places : List ℕ) × IsKeptAxis k slot_places rec_places

-- the numbers at two positions
abbrev pub pair_at : List ℕ → ℕ → ℕ → Option (ℕ × ℕ)
pair_at ns first last = option_and_then (λ m. option_map (λ n. (m, n)) (slice_get ns last)) (slice_get ns first)

abbrev pub numbering : NumberedAxis → NumberedAxis → Images
numbering rows cols = record {
  rec_row = λ row. slice_get rows.recs row;
  rec_col = λ col. slice_get cols.recs col;
  span_rows = λ top bottom. pair_at rows.slots top bottom;
  span_cols = λ left right. pair_at cols.slots left right;
}

-- the corners of each range are in order
abbrev pub HasOrderedCorners : Span → Type 0
HasOrderedCorners s = (s.top ≤ s.bottom) × (s.left ≤ s.right)

abbrev pub HasOrderedRanges : Content → Type 0
HasOrderedRanges (content.Formula t) = EachReference (λ s. Unit {0}) HasOrderedCorners t
HasOrderedRanges c = Unit {0}

abbrev pub put_numbered : NumberedAxis → NumberedAxis → Put → Put
put_numbered rows cols p = record { row = rec_number rows p.row; col = rec_number cols p.col; content = content_numbered rows cols p.content }

-- where the record, or the slot, with a number stands, and nowhere if it never came
abbrev pub place_of_rec : NumberedAxis → ℕ → Option ℕ
place_of_rec k n = if nat_lt n (length k.slots) then Some (rec_place (axis k) (opening_id n)) else None

abbrev pub place_of_slot : NumberedAxis → ℕ → Option ℕ
place_of_slot k n = if nat_lt n (length k.slots) then Some (slot_place (axis k) (opening_id n)) else None

abbrev pub pair_found : NumberedAxis → ℕ → ℕ → Option (ℕ × ℕ)
pair_found k first last = option_and_then (λ m. option_map (λ n. (m, n)) (place_of_slot k last)) (place_of_slot k first)

-- references by numbers replaced by those by positions
abbrev pub placing : NumberedAxis → NumberedAxis → Images
placing rows cols = record {
  rec_row = λ row. place_of_rec rows row;
  rec_col = λ col. place_of_rec cols col;
  span_rows = λ top bottom. pair_found rows top bottom;
  span_cols = λ left right. pair_found cols left right;
}

-- a sheet of these lines with nothing in it
abbrev pub lines_alone : NumberedAxis → NumberedAxis → IdSheet
lines_alone rows cols = by_numbers (record { rows = rows; cols = cols; cells = λ a b. content.Empty })

-- a kept content by positions
abbrev pub content_placed : NumberedAxis → NumberedAxis → Content → Content
content_placed rows cols c = locate_content (lines_alone rows cols) (content_meant (axis rows) (axis cols) c)

-- the corners of each range that an effect writes are in order
abbrev pub IsOrderedWrite : Effect → Type 0
IsOrderedWrite (effect.Write ps) = All (λ p. HasOrderedRanges p.content) ps
IsOrderedWrite (effect.InsRow p) = Unit {0}
IsOrderedWrite (effect.InsCol p) = Unit {0}
IsOrderedWrite (effect.DelRow p) = Unit {0}
IsOrderedWrite (effect.DelCol p) = Unit {0}
IsOrderedWrite (effect.Move moves) = Unit {0}

-- is the record with a number dead
abbrev pub is_dead : NumberedAxis → ℕ → Bool
is_dead k n = (axis k).dead (opening_id n)

-- where the record with a number stands, if it came and isn't dead
abbrev pub live_place : NumberedAxis → ℕ → Option ℕ
live_place k n = if is_dead k n then None else place_of_rec k n
