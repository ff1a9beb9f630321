-- What an effect does to a sheet by positions.
use Rattle.std.specs.Prelude.{◌≡◌, true, false, not, filter, List, [], ◌∷◌, length, map, insert, replicate, slice_set, slice_index_or}
use Rattle.marked_lines.specs.Moves.{permute}
use Rattle.sheet_ops.specs.declared.content.Content.{Content}
use Rattle.sheet_ops.specs.declared.content.Content.TheVariants as content
use Rattle.sheet_ops.specs.declared.content.Put.{Put}
use Rattle.sheet_ops.specs.declared.operation.Effect.{Effect}
use Rattle.sheet_ops.specs.declared.operation.Intent.{Intent}
use Rattle.sheet_ops.specs.declared.operation.Intent.TheVariants as intent
use Rattle.sheet_ops.specs.declared.operation.Effect.TheVariants as effect
use Rattle.sheet_ops.specs.LineIds.{LineId}
use Rattle.sheet_ops.specs.Identity.{IdSheet}
use Rattle.sheet_ops.specs.Naming.{step}
use Rattle.sheet_ops.specs.Maps.{row_map, col_map, content_moved}
use Rattle.sheet_ops.specs.Placed.{PlacedSheet, placed}
use Rattle.sheet_ops.specs.Fits.{writes_cell, IsWellFormed, IsNewFor}

-- one cell of the rows written, and some cells one after another
abbrev pub cell_written : List (List Content) → Put → List (List Content)
cell_written rows p = slice_set rows p.row (slice_set (slice_index_or rows p.row []) p.col p.content)

abbrev pub cells_written : List (List Content) → List Put → List (List Content)
cells_written rows [] = rows
cells_written rows (p ∷ ps) = cells_written (cell_written rows p) ps

-- each content with its references where an effect takes them
abbrev pub grid_past : Effect → List (List Content) → List (List Content)
grid_past e rows = map (λ row. map (content_moved (row_map e) (col_map e)) row) rows

abbrev pub effect_on : PlacedSheet → Effect → PlacedSheet
effect_on P (effect.Write ps) = record P { cells = cells_written P.cells ps }
effect_on P (effect.InsRow p) = record P { rows = insert P.rows p false; cells = insert (grid_past (effect.InsRow p) P.cells) p (replicate (length P.cols) content.Empty) }
effect_on P (effect.InsCol p) = record P { cols = insert P.cols p false; cells = map (λ row. insert row p content.Empty) (grid_past (effect.InsCol p) P.cells) }
effect_on P (effect.DelRow p) = record P { rows = slice_set P.rows p true }
effect_on P (effect.DelCol p) = record P { cols = slice_set P.cols p true }
effect_on P (effect.Move moves) = record P { rows = permute moves P.rows; cells = permute moves (grid_past (effect.Move moves) P.cells) }

-- whatever the lines of a sheet are called, the position step leads from the one to the other
abbrev pub StepsTo : PlacedSheet → Effect → PlacedSheet → Type 0
StepsTo old e new = (X : IdSheet) (ids : List LineId) → IsWellFormed X → IsNewFor e X ids → placed X ≡ old → placed (step X e ids) ≡ new

-- the cells that an intent writes
abbrev pub puts_of : Intent → List Put
puts_of (intent.Write ps) = ps
puts_of (intent.InsRow p) = []
puts_of (intent.InsCol p) = []
puts_of (intent.DelRow p) = []
puts_of (intent.DelCol p) = []
puts_of (intent.Sort slots recs) = []

-- what is left of some writes after others that come later: a cell that the others write too is lost
abbrev pub uncovered : List Put → List Put → List Put
uncovered ps es = filter (λ e. not (writes_cell ps e)) es
