-- Lines under numbers that never change: the first line that ever came has the number 0, the next one 1, and so on.
use Rattle.std.specs.Prelude.{ℕ, ◌≡◌, ◌<◌, ◌≤◌, ◌&&◌, nat_eq, Bool, false, if◌then◌else◌, List, [], ◌∷◌, length, slice_index}
use Rattle.sheet_ops.specs.LineIds.{opening_id}
use Rattle.sheet_ops.specs.Lines.{AxisLine, Axis}

-- the numbers by position, and the positions by number
pub record IsNumbered (numbers places : List ℕ) : Type 0 where
  pub few : length numbers ≤ 16000
  pub as_many : length places ≡ length numbers
  pub back : (p : ℕ) → p < length numbers → (slice_index numbers p < length numbers) × (slice_index places (slice_index numbers p) ≡ p)
  pub forth : (k : ℕ) → k < length numbers → (slice_index places k < length numbers) × (slice_index numbers (slice_index places k) ≡ k)

-- the lines by identity, the j-th line that came with the name of the opening line j
abbrev pub lines_of : List ℕ → List ℕ → List AxisLine
lines_of [] recs = []
lines_of (s ∷ slots) [] = []
lines_of (s ∷ slots) (r ∷ recs) = record { slot = opening_id s; rec = opening_id r } ∷ lines_of slots recs

-- the mark of the record with a number
abbrev pub mark_of : List ℕ → List Bool → ℕ → Bool
mark_of [] marks n = false
mark_of (r ∷ recs) [] n = false
mark_of (r ∷ recs) (m ∷ marks) n = if nat_eq r n then m else mark_of recs marks n

abbrev pub axis_of : List ℕ → List ℕ → List Bool → Axis
axis_of slots recs marks = record { lines = lines_of slots recs; dead = λ id. nat_eq id.site 0 && mark_of recs marks id.number }
