-- In which order a sort puts rows.
use Rattle.std.specs.Prelude.{ℕ, Bool, if◌then◌else◌, List, [], ◌∷◌, map, slice_index, slice_index_or}
use Rattle.std.specs.List.{zip}
use Rattle.std.specs.Ordering.{is_lt, nat_cmp, ordering_then}
use Rattle.std.specs.declared.cmp.Ordering.{Ordering}
use Rattle.sheet_value.specs.declared.value.Value.{Value}
use Rattle.sheet_value.specs.declared.value.Value.TheVariants as value
use Rattle.sheet_value.specs.Order.{order_of}

abbrev pub empty_rank : Value → ℕ
empty_rank value.Empty = 1
empty_rank (value.Num z) = 0
empty_rank (value.Text t) = 0
empty_rank (value.Err e) = 0

-- empty keys stand last, the others by the order of values, reversed for `down`
abbrev pub key_order : Bool → Value → Value → Ordering
key_order down a b = ordering_then (nat_cmp (empty_rank a) (empty_rank b)) (if down then order_of b a else order_of a b)

-- the row at an index, by its position and its key
abbrev pub row_at : List ℕ → List Value → ℕ → ℕ × Value
row_at places keys i = (slice_index places i, slice_index_or keys i value.Empty)

-- of two rows, by their positions and keys; ties stand as they stand
abbrev pub row_order : Bool → ℕ × Value → ℕ × Value → Ordering
row_order down r s = ordering_then (key_order down r.1 s.1) (nat_cmp r.0 s.0)

-- a row put behind all that come before it
abbrev pub row_put : Bool → ℕ × Value → List (ℕ × Value) → List (ℕ × Value)
row_put down r [] = r ∷ []
row_put down r (s ∷ rows) = if is_lt (row_order down s r) then s ∷ row_put down r rows else r ∷ s ∷ rows

abbrev pub rows_sorted : Bool → List (ℕ × Value) → List (ℕ × Value)
rows_sorted down [] = []
rows_sorted down (r ∷ rows) = row_put down r (rows_sorted down rows)

-- positions in the order of their keys
abbrev pub places_sorted : Bool → List ℕ → List Value → List ℕ
places_sorted down places keys = map (λ r. r.0) (rows_sorted down (zip places keys))
