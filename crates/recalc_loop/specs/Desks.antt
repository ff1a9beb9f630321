-- What a desk keeps.
use Rattle.std.specs.Prelude.{◌≡◌, ◌≤◌, ℕ, ◌+◌, Bool, false, List, [], length, All, Option, Some, None, slice_get}
use Rattle.ss_base.specs.declared.types.Size.{Size}
use Rattle.sheet_ops.specs.declared.operation.Entry.{Entry}
use Rattle.turn_book.specs.Passes.{BookId, PassOf, items_in}
use Rattle.value_snap.specs.declared.rule.Store.{Store}
use Rattle.value_snap.specs.Lists.{is_ended, replay_of}
use Rattle.value_snap.specs.Stores.{PublisherOf}
use Rattle.value_snap.specs.Views.{store_size}
use Rattle.hub.specs.Hubs.{opening_of}
use Rattle.recalc_loop.specs.declared.evaluation.Evaluation.{Evaluation}
use Rattle.recalc_loop.specs.Evaluations.{IsEvaluated}
use Rattle.recalc_loop.specs.Standing.{EachStands, StandsFor, IsSnapshotOf}

-- the history that its pass has seen and the number of its holds, its publishers, and whether a turn was refused
pub record DeskOf : Type 0 where
  pub seen : List Entry
  pub holds : ℕ
  pub publishers : List PublisherOf
  pub spent : Bool

abbrev pub desk_of : Option (PassOf Entry) → List PublisherOf → Bool → DeskOf
desk_of (Some p) qs spent = record { seen = items_in p.seen; holds = p.holds; publishers = qs; spent = spent }
desk_of None qs spent = record { seen = []; holds = 0; publishers = qs; spent = spent }

-- The pass is the book's first one, and there is a publisher for the store of each site. No list of theirs has an end mark, and
-- each beginning of one stands for a beginning of the history that the pass has seen. Where no turn was refused no publisher
-- is spent, and each list stands for all of that history
pub record IsDesk (book : BookId) (size : Size) (sites : ℕ) (stores : ℕ → Store) (p : PassOf Entry) (qs : List PublisherOf) (spent : Bool) : Type 0 where
  pub book_is : p.book ≡ book
  pub number : p.number ≡ 0
  pub opening : p.opening ≡ opening_of size sites
  pub rows : size.rows ≤ 1000
  pub cols : size.cols ≤ 64
  pub few : sites ≤ 8
  pub count : length qs ≡ sites
  pub stores_are : (i : ℕ) (q : PublisherOf) → slice_get qs i ≡ Some q → q.store ≡ stores (i + 1)
  pub sized : (i : ℕ) (q : PublisherOf) → slice_get qs i ≡ Some q → store_size q.store ≡ size
  pub unclosed : All (λ (q : PublisherOf). is_ended q.list ≡ false) qs
  pub each : All (λ (q : PublisherOf). EachStands size q.list (items_in p.seen)) qs
  pub unspent : spent ≡ false → All (λ (q : PublisherOf). q.spent ≡ false) qs
  pub whole : spent ≡ false → All (λ (q : PublisherOf). StandsFor size q.list (items_in p.seen)) qs

abbrev pub KeepsDesk : BookId → Size → ℕ → (ℕ → Store) → Option (PassOf Entry) → List PublisherOf → Bool → Type 0
KeepsDesk book size sites stores (Some p) qs spent = IsDesk book size sites stores p qs spent
KeepsDesk book size sites stores None qs spent = ⊥

-- the evaluation is that of the history, and each list leads to its values by visible indexes
pub record IsCurrent (size : Size) (H : List Entry) (e : Evaluation) (qs : List PublisherOf) : Type 0 where
  pub evaluated : IsEvaluated size H e
  pub shown : All (λ (q : PublisherOf). IsSnapshotOf e.values (replay_of size q.list)) qs

abbrev pub KeepsCurrent : Size → Option (PassOf Entry) → Evaluation → List PublisherOf → Type 0
KeepsCurrent size (Some p) e qs = IsCurrent size (items_in p.seen) e qs
KeepsCurrent size None e qs = ⊥
