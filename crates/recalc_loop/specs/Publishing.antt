-- Publishers to which one batch goes.
use Rattle.std.specs.Prelude.{◌≡◌, ◌⊎◌, List, [], ◌∷◌, ◌++◌, length}
use Rattle.ss_base.specs.declared.types.Size.{Size}
use Rattle.sheet_ops.specs.declared.operation.Entry.{Entry}
use Rattle.sheet_ops.specs.History.{sheet_of}
use Rattle.sheet_value.specs.declared.batch.Batch.{Batch}
use Rattle.full_calc.specs.Values.{value_table}
use Rattle.recalc_loop.specs.Changes.{batch_between}
use Rattle.value_snap.specs.declared.published.Published.TheVariants.{Full}
use Rattle.value_snap.specs.Stores.{PublisherOf}

-- the batch that leads from the values of one history to those of another
abbrev pub batch_of : Size → List Entry → List Entry → Batch
batch_of size before now = batch_between (length now) (value_table (sheet_of size before)) (value_table (sheet_of size now))

-- a publisher that has published one more batch
abbrev pub published : Batch → PublisherOf → PublisherOf
published b p = record p { list = p.list ++ Full b ∷ [] }

-- it has published the batch, or nothing
pub record MayHavePublished (b : Batch) (old new : PublisherOf) : Type 0 where
  pub store : new.store ≡ old.store
  pub list : (new.list ≡ old.list) ⊎ (new.list ≡ old.list ++ Full b ∷ [])
