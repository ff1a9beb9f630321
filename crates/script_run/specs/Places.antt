-- The places of sites by their names.
use Rattle.std.specs.Prelude.{ℕ, ◌≡◌, List, [], ◌∷◌, ◌++◌, map, if◌then◌else◌, is_some}
use Rattle.std.specs.Global.{Vec}
use Rattle.std.specs.Map.{lookup}
use Rattle.std.specs.Str.{bytes_eq}
use Rattle.script_run.specs.declared.seat.Seat.{Seat}
use Rattle.script_run.specs.World.{place_in}

-- the entries of a map from names to places
abbrev pub pairs_of : List (Vec ℕ × ℕ) → List (List ℕ × ℕ)
pairs_of entries = map (λ e. (e.0.items, e.1)) entries

-- a name that has a place keeps it, and a new one goes last
abbrev pub with_place : List (List ℕ × ℕ) → List ℕ → ℕ → List (List ℕ × ℕ)
with_place places name place = if is_some (lookup (bytes_eq name) places) then places else places ++ (name, place) ∷ []

-- each name has the place of the first seat with that name, and none where there is no such seat
abbrev pub AreFound : List Seat → List (List ℕ × ℕ) → Type 0
AreFound seats places = (name : List ℕ) → lookup (bytes_eq name) places ≡ place_in seats name
