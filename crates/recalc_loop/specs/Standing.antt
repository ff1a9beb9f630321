-- What published lists stand for.
use Rattle.std.specs.Prelude.{◌≡◌, ℕ, List, length}
use Rattle.std.specs.List.{range_with_len}
use Rattle.ss_base.specs.declared.types.Size.{Size}
use Rattle.ss_base.specs.Lists.{IsPrefixOf}
use Rattle.sheet_ops.specs.declared.operation.Entry.{Entry}
use Rattle.sheet_ops.specs.History.{sheet_of}
use Rattle.sheet_value.specs.Snapshots.{Snapshot, cell_in}
use Rattle.sheet_value.specs.Tables.{Table, value_at}
use Rattle.full_calc.specs.Values.{value_table}
use Rattle.value_snap.specs.declared.published.Published.{Published}
use Rattle.value_snap.specs.Lists.{replay_of}
use Rattle.value_snap.specs.Parts.{part_between}

-- the values that a snapshot has at visible indexes
abbrev pub snapshot_values : Snapshot → Table
snapshot_values s = part_between s.cells s.row_order s.col_order

-- the list leads to the length of the history, and to the values of its sheet
pub record StandsFor (size : Size) (list : List Published) (H : List Entry) : Type 0 where
  pub count : (replay_of size list).length ≡ length H
  pub values : snapshot_values (replay_of size list) ≡ value_table (sheet_of size H)

-- each beginning of the list stands for a beginning of the history
abbrev pub EachStands : Size → List Published → List Entry → Type 0
EachStands size list H = (before : List Published) → IsPrefixOf before list → (h : List Entry) × IsPrefixOf h H × StandsFor size before h

-- the snapshot has the values of a table, whose lines have their visible indexes as numbers
pub record IsSnapshotOf (T : Table) (s : Snapshot) : Type 0 where
  pub row_order : s.row_order ≡ range_with_len 0 T.size.rows
  pub col_order : s.col_order ≡ range_with_len 0 T.size.cols
  pub values : (row col : ℕ) → cell_in s.cells row col ≡ value_at T row col
