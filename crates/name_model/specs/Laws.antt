-- What both ways round lead to.
use Rattle.std.specs.Prelude.{◌≡◌, List, ◌++◌, length, All}
use Rattle.sheet_ops.specs.declared.operation.Effect.{Effect}
use Rattle.sheet_ops.specs.declared.operation.Intent.{Intent}
use Rattle.sheet_ops.specs.LineIds.{LineId}
use Rattle.sheet_ops.specs.Identity.{IdOp, IdSheet}
use Rattle.sheet_ops.specs.Act.{acts}
use Rattle.sheet_ops.specs.Fits.{GridFits, IsWellFormed, AreNew}
use Rattle.sheet_ops.specs.Naming.{operations_in, step}
use Rattle.sheet_ops.specs.Placed.{PlacedSheet, placed, placed_size}
use Rattle.name_model.specs.InTurn.{brought_each, locate_each}

-- A sheet by positions is what another's effect and then own operations make of one by identity, untransformed, whatever
-- its lines and those that come are called: the operations are those that are, in turn, these intents on that sheet.
abbrev pub IsByIdentity : PlacedSheet → List Intent → Effect → PlacedSheet → Type 0
IsByIdentity P own other after =
    (X : IdSheet) (Ns : List IdOp) (ids : List LineId) → IsWellFormed X → placed X ≡ P → locate_each X Ns ≡ own → length ids ≡ operations_in other → AreNew X (brought_each Ns ++ ids) →
    placed (acts (step X other ids) Ns) ≡ after

-- there is a content for each row and column, and its references are inside
pub record IsWhole (P : PlacedSheet) : Type 0 where
  pub as_many : length P.cells ≡ length P.rows
  pub as_long : All (λ row. length row ≡ length P.cols) P.cells
  pub inside : GridFits (placed_size P) P.cells
