-- How the code keeps a cell or a range.
use Rattle.std.specs.Prelude.{◌≡◌, ◌≤◌, List, [], ◌∷◌, length}
use Rattle.ss_base.specs.declared.types.Size.{Size}
use Rattle.sheet_value.specs.declared.value.Value.{Value}
use Rattle.sheet_value.specs.Tables.{filled_up, IsPart}
use Rattle.funcs.specs.declared.area.Place.{Place}
use Rattle.funcs.specs.declared.area.Place.TheVariants as place

abbrev pub ValueRows : Type 0
ValueRows = List (List Value)

-- its values row by row
abbrev pub values_of : Place → List (List Value)
values_of (place.Cell vs) = filled_up vs.now 1 ∷ []
values_of (place.Range w) = w.rows

-- and its shape
abbrev pub HasShape : Place → Size → Type 0
HasShape (place.Cell vs) shape = (length vs.now ≤ 1) × (shape ≡ record { rows = 1; cols = 1 })
HasShape (place.Range w) shape = IsPart w × (w.size ≡ shape)
