-- A list of lines by their marks: `true` for a line that is hidden for good. A position counts all lines from 0, a
-- visible index only the visible ones.
use Rattle.std.specs.Prelude.{ℕ, suc, ◌-◌, ◌≤◌, ◌≡◌, length, nat_lt, Bool, true, false, if◌then◌else◌, List, [], ◌∷◌, ◌++◌, ◌+◌, map, drop, take, Option, Some, None, slice_get, slice_index_or}
use Rattle.marked_lines.specs.declared.lines.TheConstants.{MOST_LINES}

-- how many lines are visible
abbrev pub visible_count : List Bool → ℕ
visible_count [] = 0
visible_count (true ∷ marks) = visible_count marks
visible_count (false ∷ marks) = suc (visible_count marks)

-- the positions of the visible lines from first to last, where the first line of all stands at position p
abbrev pub places_from : ℕ → List Bool → List ℕ
places_from p [] = []
places_from p (true ∷ marks) = places_from (suc p) marks
places_from p (false ∷ marks) = p ∷ places_from (suc p) marks

abbrev pub visible_places : List Bool → List ℕ
visible_places marks = places_from 0 marks

-- the position of the visible line with this visible index
abbrev pub place_of : List Bool → ℕ → Option ℕ
place_of marks v = slice_get (visible_places marks) v

-- how many visible lines stand before a position
abbrev pub visible_before : List Bool → ℕ → ℕ
visible_before marks p = visible_count (take p marks)

-- the visible index of the line at a position, none for a marked line
abbrev pub visible_of : List Bool → ℕ → Option ℕ
visible_of marks p = if slice_index_or marks p true then None else Some (visible_before marks p)

-- the visible indexes of the first and of the last visible line from one position to another, both counted
abbrev pub span_of : List Bool → ℕ → ℕ → Option (ℕ × ℕ)
span_of marks first last =
    if nat_lt (visible_before marks first) (visible_before marks (suc last))
    then Some (visible_before marks first, visible_before marks (suc last) - 1)
    else None

-- what is kept of a list of lines: its marks, not too many, and beside them the positions of the visible lines
pub record IsIndexed (marks : List Bool) (places : List ℕ) : Type 0 where
  pub short : length marks ≤ MOST_LINES
  pub visible : places ≡ visible_places marks

-- ascending places after a new one went in at an index and those behind it moved one further
abbrev pub raised : List ℕ → ℕ → ℕ → List ℕ
raised places v p = take v places ++ p ∷ map (λ q. q + 1) (drop v places)
