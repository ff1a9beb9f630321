-- What contracts see of the ends of a store.
use Rattle.std.specs.Prelude.{ℕ, Bool, List, ◌≤◌, length}
use Rattle.sheet_value.specs.declared.batch.Batch.{Batch}
use Rattle.sheet_value.specs.Snapshots.{Snapshot}
use Rattle.value_snap.specs.declared.published.Published.{Published}
use Rattle.value_snap.specs.declared.rule.Store.{Store}
use Rattle.value_snap.specs.Lists.{replay_of}
use Rattle.value_snap.specs.Views.{store_size}

-- which store, what was published, and whether a call was refused
pub record PublisherOf : Type 0 where
  pub store : Store
  pub list : List Published
  pub spent : Bool

-- which store, and the published list that is told
pub record ToldOf : Type 0 where
  pub store : Store
  pub list : List Published

-- which store, the longest list that was read or learnt, and how many entries were refused
pub record ReaderOf : Type 0 where
  pub store : Store
  pub known : List Published
  pub refused : ℕ

-- the values after the list that the reader knows
abbrev pub known_snapshot : ReaderOf → Snapshot
known_snapshot r = replay_of (store_size r.store) r.known

-- a sheet has at most 16,000 rows and columns
abbrev pub HasFewLines : Batch → Type 0
HasFewLines b = (length b.row_order ≤ 16000) × (length b.col_order ≤ 16000)
