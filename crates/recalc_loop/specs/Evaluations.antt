-- The sheet and the values after a beginning of a history.
use Rattle.std.specs.Prelude.{◌≡◌, ◌≤◌, ℕ, List, length, drop}
use Rattle.ss_base.specs.declared.types.Size.{Size}
use Rattle.sheet_ops.specs.declared.operation.Entry.{Entry}
use Rattle.sheet_ops.specs.declared.operation.Effect.{Effect}
use Rattle.sheet_ops.specs.History.{sheet_of, IsValidHistory}
use Rattle.sheet_ops.specs.Placed.{placed}
use Rattle.sheet_ops.specs.Represents.{sheet_at}
use Rattle.sheet_grid.specs.Values.{placed_in}
use Rattle.full_calc.specs.Values.{value_table}
use Rattle.hub.specs.Messages.{effects_of}
use Rattle.recalc_loop.specs.declared.evaluation.Evaluation.{Evaluation}

-- it is that after this history
pub record IsEvaluated (size : Size) (H : List Entry) (e : Evaluation) : Type 0 where
  pub count : e.length ≡ length H
  pub sheet : placed (sheet_of size H) ≡ placed_in e.sheet
  pub values : e.values ≡ value_table (sheet_of size H)

-- these are the effects of the entries of a history that it hasn't yet
pub record AreNext (size : Size) (sites : ℕ) (H : List Entry) (e : Evaluation) (effects : List Effect) : Type 0 where
  pub rows : size.rows ≤ 1000
  pub cols : size.cols ≤ 64
  pub few : sites ≤ 8
  pub valid : IsValidHistory size sites H
  pub within : e.length ≤ length H
  pub sheet : placed (sheet_at size H e.length) ≡ placed_in e.sheet
  pub effects_are : effects ≡ drop e.length (effects_of size H)
