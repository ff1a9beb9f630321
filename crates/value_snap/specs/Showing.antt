-- What operations do to what is on show.
use Rattle.std.specs.Prelude.{◌≡◌, ℕ, List, [], ◌∷◌, ◌++◌, map, fold}
use Rattle.sheet_value.specs.declared.batch.Batch.{Batch}
use Rattle.sheet_value.specs.declared.batch.Change.{Change}
use Rattle.sheet_value.specs.Snapshots.{with_change}
use Rattle.value_snap.specs.declared.shown.Shown.{Shown}
use Rattle.value_snap.specs.declared.shown.Op.{Op}
use Rattle.value_snap.specs.declared.shown.Op.TheVariants.{Put, Seal, Mark}
use Rattle.value_snap.specs.Log.{FrontOf}
use Rattle.value_snap.specs.Lists.{replay_of}

abbrev pub after_op : Shown → Op → Shown
after_op s (Put c) = record s { snap = record s.snap { cells = with_change s.snap.cells c } }
after_op s (Seal n rows cols front) = record s { snap = record s.snap { length = n; row_order = rows; col_order = cols }; front = front }
after_op s (Mark front) = record s { front = front }

-- the operations of changes
abbrev pub put_operations : List Change → List Op
put_operations changes = map (λ c. Put c) changes

-- the operations of one batch
abbrev pub ops_of : Batch → FrontOf → List Op
ops_of b front = put_operations b.changes ++ Seal b.upto b.row_order b.col_order front ∷ []

-- the values on show are the replay of their list
abbrev pub IsReplay : Shown → Type 0
IsReplay s = s.snap ≡ replay_of s.size s.front.list
