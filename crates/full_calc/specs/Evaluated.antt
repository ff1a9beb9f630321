-- The values of a sheet's cells as they come one after another, by visible indexes.
use Rattle.std.specs.Prelude.{ℕ, zero, suc, ◌≡◌, ◌<◌, if◌then◌else◌, Bool, List, [], ◌∷◌, Option, None, Some, slice_get}
use Rattle.ss_base.specs.declared.types.Size.{Size}
use Rattle.ss_base.specs.declared.types.CalcErr.TheVariants as fault
use Rattle.sheet_value.specs.declared.value.Value.{Value}
use Rattle.sheet_value.specs.declared.value.Value.TheVariants as value
use Rattle.sheet_value.specs.Values.{text_value}
use Rattle.sheet_value.specs.Tables.{Table, with_value}
use Rattle.cell_eval.specs.Meaning.{formula_value}
use Rattle.sheet_ops.specs.declared.content.Content.{Content}
use Rattle.sheet_ops.specs.declared.content.Content.TheVariants as content
use Rattle.cell_walk.specs.declared.walking.Colour.{Colour}
use Rattle.cell_walk.specs.Walks.{hue, is_circle}
use Rattle.sheet_graph.specs.declared.graph.Node.{Node}
use Rattle.full_calc.specs.Looks.{look_environment}

-- a constant's value, and nothing yet for a formula
abbrev pub constant_of : Content → Value
constant_of content.Empty = value.Empty
constant_of (content.Num z) = value.Num z
constant_of (content.Text t) = text_value t
constant_of (content.Formula t) = value.Empty

-- of the first so many formula cells the circular ones have the fault
abbrev pub circled_node : Option Node → Table → Table
circled_node None T = T
circled_node (Some x) T = with_value T x.row x.col (value.Err fault.Circ)

abbrev pub circled : List Node → List Colour → ℕ → Table → Table
circled nodes colours zero T = T
circled nodes colours (suc n) T = if is_circle (hue colours n) then circled_node (slice_get nodes n) (circled nodes colours n T) else circled nodes colours n T

-- a formula cell has what its formula comes to by the values before it; then all of an order
abbrev pub evaluated_node : List Bool → List Bool → Option Node → Table → Table
evaluated_node rows cols None T = T
evaluated_node rows cols (Some x) T = with_value T x.row x.col (formula_value (look_environment rows cols T) x.formula)

abbrev pub evaluated : List Bool → List Bool → List Node → List ℕ → Table → Table
evaluated rows cols nodes [] T = T
evaluated rows cols nodes (n ∷ order) T = evaluated rows cols nodes order (evaluated_node rows cols (slice_get nodes n) T)

-- each formula cell has a place in a table
abbrev pub AreIn : Size → List Node → Type 0
AreIn size nodes = (n : ℕ) (x : Node) → slice_get nodes n ≡ Some x → (x.row < size.rows) × (x.col < size.cols)
