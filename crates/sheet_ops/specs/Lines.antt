-- The lines of one axis, rows or columns. A line is a slot, which is a place, and the record that stands in it.
use Rattle.std.specs.Prelude.{ℕ, zero, suc, nat_eq, nat_lt, ◌&&◌, ◌||◌, Bool, false, not, if◌then◌else◌, List, [], ◌∷◌, length, map, filter, insert, slice_get, slice_index_or, Option, None, Some}
use Rattle.std.specs.List.{zip, list_any}
use Rattle.marked_lines.specs.Moves.{image, source, moves_of}
use Rattle.sheet_ops.specs.LineIds.{LineId, id_eq, opening_id}

pub record AxisLine : Type 0 where
  pub slot : LineId
  pub rec : LineId

-- the slots in their order, each with its record, and the records that are dead
pub record Axis : Type 0 where
  pub lines : List AxisLine
  pub dead : LineId → Bool

-- a new line brings a slot and a record under one identifier
abbrev pub new_line : LineId → AxisLine
new_line id = record { slot = id; rec = id }

-- so many opening lines, from a number on
abbrev pub opening_lines : ℕ → ℕ → List AxisLine
opening_lines first zero = []
opening_lines first (suc count) = new_line (opening_id first) ∷ opening_lines (suc first) count

abbrev pub opening_axis : ℕ → Axis
opening_axis count = record { lines = opening_lines 0 count; dead = λ _. false }

-- the position of the first that passes; where none does, the length
abbrev pub place_where : {A : Type 0} → (A → Bool) → List A → ℕ
place_where test [] = 0
place_where test (x ∷ xs) = if test x then 0 else suc (place_where test xs)

-- the position of the slot in which a record stands; of a record that isn't there, the length
abbrev pub rec_place : Axis → LineId → ℕ
rec_place axis id = place_where (λ l. id_eq l.rec id) axis.lines

-- the position of a slot; of one that isn't there, the length
abbrev pub slot_place : Axis → LineId → ℕ
slot_place axis id = place_where (λ l. id_eq l.slot id) axis.lines

-- what a position past the end is said to be
abbrev pub no_line : AxisLine
no_line = new_line (opening_id 0)

-- the record that stands at a position
abbrev pub rec_at : Axis → ℕ → LineId
rec_at axis position = (slice_index_or axis.lines position no_line).rec

-- the slot that is at a position
abbrev pub slot_at : Axis → ℕ → LineId
slot_at axis position = (slice_index_or axis.lines position no_line).slot

-- where an insertion before a slot stands: `None` is the end. Before a slot that isn't there it stands past the end,
-- where nothing fits
abbrev pub before_place : Axis → Option LineId → ℕ
before_place axis None = length axis.lines
before_place axis (Some id) = let p = slot_place axis id in if nat_lt p (length axis.lines) then p else suc p

-- the slot at a position, none at the end
abbrev pub slot_id : Option AxisLine → Option LineId
slot_id None = None
slot_id (Some l) = Some l.slot

abbrev pub before_at : Axis → ℕ → Option LineId
before_at axis position = slot_id (slice_get axis.lines position)

-- a new line at a position
abbrev pub inserted : Axis → ℕ → LineId → Axis
inserted axis position id = record axis { lines = insert axis.lines position (new_line id) }

-- a record becomes dead
abbrev pub deleted : Axis → LineId → Axis
deleted axis rec = record axis { dead = λ id. id_eq rec id || axis.dead id }

-- each record goes from its position to the image of that position; slots stay
abbrev pub lines_moved_from : List (ℕ × ℕ) → List AxisLine → ℕ → List AxisLine → List AxisLine
lines_moved_from moves all position [] = []
lines_moved_from moves all position (l ∷ ls) =
    record { slot = l.slot; rec = (slice_index_or all (source moves position) l).rec } ∷ lines_moved_from moves all (suc position) ls

abbrev pub moved : Axis → List (ℕ × ℕ) → Axis
moved axis moves = record axis { lines = lines_moved_from moves axis.lines 0 axis.lines }

-- is a number, or an identifier, one of a list
abbrev pub has_number : List ℕ → ℕ → Bool
has_number ns n = list_any (λ m. nat_eq m n) ns

abbrev pub has_id : List LineId → LineId → Bool
has_id ids id = list_any (λ a. id_eq a id) ids

-- What stands at the positions `from` goes to those of `to`, which hold the same numbers and ascend, one to the other
-- at the same place of the lists.
abbrev pub moves_between : List ℕ → List ℕ → List (ℕ × ℕ)
moves_between from to = moves_of (image (zip from to)) to

-- A sort by positions: the ones that are both among its slots and among its records; their records, in the order of
-- the records, go to them in ascending order.
abbrev pub sort_moves : List ℕ → List ℕ → List (ℕ × ℕ)
sort_moves slots recs = moves_between (filter (has_number slots) recs) (filter (has_number recs) slots)

-- the positions, ascending, whose slot is one of these and whose record is one of those, where the first line of all
-- has this position
abbrev pub places_of : List LineId → List LineId → ℕ → List AxisLine → List ℕ
places_of slots recs position [] = []
places_of slots recs position (l ∷ ls) =
    if has_id slots l.slot && has_id recs l.rec then position ∷ places_of slots recs (suc position) ls else places_of slots recs (suc position) ls

-- each number once, where it comes first
abbrev pub first_uses : List ℕ → List ℕ → List ℕ
first_uses seen [] = []
first_uses seen (n ∷ ns) = if has_number seen n then first_uses seen ns else n ∷ first_uses (n ∷ seen) ns

-- A sort by identity: the records of the list that stand in its slots, in the list's order, go to where they stand, from
-- first to last.
abbrev pub sorted_moves : Axis → List LineId → List LineId → List (ℕ × ℕ)
sorted_moves axis slots recs =
    let places = places_of slots recs 0 axis.lines in
    moves_between (first_uses [] (filter (has_number places) (map (rec_place axis) recs))) places

abbrev pub sorted : Axis → List LineId → List LineId → Axis
sorted axis slots recs = moved axis (sorted_moves axis slots recs)

-- per position, whether the record that stands there is dead
abbrev pub marks : Axis → List Bool
marks axis = map (λ l. axis.dead l.rec) axis.lines

-- the lines that are seen
abbrev pub live_lines : Axis → List AxisLine
live_lines axis = filter (λ l. not (axis.dead l.rec)) axis.lines
