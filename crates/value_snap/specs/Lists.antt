-- Lists of what was published, and their replay.
use Rattle.std.specs.Prelude.{◌≡◌, ◌≢◌, ◌⊎◌, ℕ, ◌≤◌, Bool, true, false, List, [], ◌∷◌}
use Rattle.ss_base.specs.declared.types.Size.{Size}
use Rattle.sheet_value.specs.declared.batch.Batch.{Batch}
use Rattle.sheet_value.specs.declared.batch.Change.{Change}
use Rattle.sheet_value.specs.Snapshots.{Snapshot, replay}
use Rattle.value_snap.specs.declared.published.Published.{Published}
use Rattle.value_snap.specs.declared.published.Published.TheVariants.{Full, End}

-- the batches of a list
abbrev pub batches_of : List Published → List Batch
batches_of [] = []
batches_of (Full b ∷ es) = b ∷ batches_of es
batches_of (End ∷ es) = batches_of es

-- the values after a list
abbrev pub replay_of : Size → List Published → Snapshot
replay_of size es = replay size (batches_of es)

-- how far the list goes, where n is how far it went before
abbrev pub upto_from : ℕ → List Published → ℕ
upto_from n [] = n
upto_from n (Full b ∷ es) = upto_from b.upto es
upto_from n (End ∷ es) = upto_from n es

-- whether the list ends in the mark
abbrev pub is_ended : List Published → Bool
is_ended [] = false
is_ended (Full b ∷ es) = is_ended es
is_ended (End ∷ []) = true
is_ended (End ∷ (e ∷ es)) = is_ended (e ∷ es)

-- no batch goes less far than an earlier one, and nothing follows the mark
abbrev pub IsOrderedFrom : ℕ → List Published → Type 0
IsOrderedFrom n [] = Unit {0}
IsOrderedFrom n (Full b ∷ es) = (n ≤ b.upto) × IsOrderedFrom b.upto es
IsOrderedFrom n (End ∷ es) = es ≡ []

abbrev pub IsOrdered : List Published → Type 0
IsOrdered es = IsOrderedFrom 0 es

-- what may come behind the list
abbrev pub MayBePublished : List Published → Published → Type 0
MayBePublished es (Full b) = (is_ended es ≡ false) × (upto_from 0 es ≤ b.upto)
MayBePublished es End = is_ended es ≡ false

-- the change is of another cell
abbrev pub IsElsewhere : ℕ → ℕ → Change → Type 0
IsElsewhere row col c = (c.row ≢ row) ⊎ (c.col ≢ col)
