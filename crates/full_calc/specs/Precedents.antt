-- Which cells are live, which of them a formula mentions, and what it sees of their values.
use Rattle.std.specs.Prelude.{ℕ, suc, ◌&&◌, nat_le, not, if◌then◌else◌, Bool, true, List, [], ◌∷◌, ◌++◌, map, filter, flat_map, take, drop, slice_index_or, None, Some}
use Rattle.std.specs.List.{list_any}
use Rattle.formula_tree.specs.Tree.{Tree, Trees, num, text, fault, cell, range, pre, bin, call, none, more}
use Rattle.sheet_value.specs.declared.value.Value.{Value}
use Rattle.sheet_value.specs.Environment.{Environment}
use Rattle.marked_lines.specs.Marks.{visible_places}
use Rattle.sheet_ops.specs.LineIds.{LineId, id_eq}
use Rattle.sheet_ops.specs.Lines.{AxisLine, Axis, live_lines, slot_place, rec_at, marks}
use Rattle.sheet_ops.specs.Identity.{IdCell, IdRange, IdSheet}

-- a cell by identity: the record of its row and the record of its column
pub record CellId : Type 0 where
  pub row : LineId
  pub col : LineId

-- a record that stands in a slot and isn't dead
abbrev pub is_live : Axis → LineId → Bool
is_live axis id = list_any (λ l. id_eq l.rec id) axis.lines && not (axis.dead id)

abbrev pub is_live_cell : IdSheet → CellId → Bool
is_live_cell X c = is_live X.rows c.row && is_live X.cols c.col

-- the live cells, row by row
abbrev pub live_cells : IdSheet → List CellId
live_cells X = flat_map (λ (r : AxisLine). map (λ (c : AxisLine). record { row = r.rec; col = c.rec }) (live_lines X.cols)) (live_lines X.rows)

-- the lines from one slot to another, both counted
abbrev pub lines_between : Axis → LineId → LineId → List AxisLine
lines_between axis first last = drop (slot_place axis first) (take (suc (slot_place axis last)) axis.lines)

-- the records that are seen there, from first to last
abbrev pub seen_between : Axis → LineId → LineId → List LineId
seen_between axis first last = map (λ l. l.rec) (filter (λ l. not (axis.dead l.rec)) (lines_between axis first last))

module _ (X : IdSheet) where
  -- a reference to a cell leads to it, unless it is lost
  abbrev pub cell_mentions : IdCell → List CellId
  cell_mentions c = if is_live_cell X (record { row = c.row; col = c.col }) then record { row = c.row; col = c.col } ∷ [] else []

  -- a range leads to all of its visible cells, row by row
  abbrev pub range_mentions : IdRange → List CellId
  range_mentions r = flat_map (λ (a : LineId). map (λ (b : LineId). record { row = a; col = b }) (seen_between X.cols r.left r.right)) (seen_between X.rows r.top r.bottom)

  -- the cells that a formula mentions, in every argument and branch
  abbrev mutual
    pub mentioned : Tree IdCell IdRange → List CellId
    mentioned (num n) = []
    mentioned (text t) = []
    mentioned (fault e) = []
    mentioned (cell c) = cell_mentions c
    mentioned (range r) = range_mentions r
    mentioned (pre op t) = mentioned t
    mentioned (bin op s t) = mentioned s ++ mentioned t
    mentioned (call f ts) = mentioned_all ts

    pub mentioned_all : Trees IdCell IdRange → List CellId
    mentioned_all none = []
    mentioned_all (more t ts) = mentioned t ++ mentioned_all ts

-- ---- what a formula sees by positions

-- the line at a position is there and isn't marked
abbrev pub is_seen : List Bool → ℕ → Bool
is_seen ms p = not (slice_index_or ms p true)

-- the positions of the visible lines from one position to another, both counted
abbrev pub places_between : List Bool → ℕ → ℕ → List ℕ
places_between ms first last = filter (λ p. nat_le first p && nat_le p last) (visible_places ms)

-- references on lines with these marks, and a value for each position
abbrev pub environment_at : List Bool → List Bool → (ℕ → ℕ → Value) → Environment
environment_at rows cols v = record {
  value = v;
  place = λ s. if is_seen rows s.row && is_seen cols s.col then Some (s.row, s.col) else None;
  rows = λ s. places_between rows s.top s.bottom;
  cols = λ s. places_between cols s.left s.right;
}

-- a sheet by identity, and a value for each of its cells
abbrev pub environment : IdSheet → (CellId → Value) → Environment
environment X v = environment_at (marks X.rows) (marks X.cols) (λ row col. v (record { row = rec_at X.rows row; col = rec_at X.cols col }))
