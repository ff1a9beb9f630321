-- The replay of a list that is one entry longer, and the operations that lead to it.
use Rattle.std.proofs.Common.{◌≡◌, ℕ, ◌≤◌, List, [], ◌∷◌, ◌++◌, refl, ap, sym, ◌∙◌, subst}
use Rattle.std.specs.Prelude.{map, fold}
use Rattle.std.proofs.lemmas.List.Sums.{fold-append}
use Rattle.logbook.specs.Pages.{Book}
use Rattle.ss_base.specs.declared.types.Size.{Size}
use Rattle.ss_base.specs.declared.types.Span.{Span}
use Rattle.ss_base.specs.Lists.{IsPrefixOf}
use Rattle.sheet_value.specs.declared.batch.Batch.{Batch}
use Rattle.sheet_value.specs.declared.batch.Change.{Change}
use Rattle.sheet_value.specs.Snapshots.{Snapshot, opening_snapshot, replay, after_batch, with_change}
use Rattle.value_snap.specs.declared.published.Published.{Published}
use Rattle.value_snap.specs.declared.published.Published.TheVariants.{Full, End}
use Rattle.value_snap.specs.declared.shown.Shown.{Shown}
use Rattle.value_snap.specs.declared.shown.Op.{Op}
use Rattle.value_snap.specs.declared.shown.Op.TheVariants.{Put, Seal, Mark}
use Rattle.value_snap.specs.declared.snap.View.{View}
use Rattle.value_snap.specs.Lists.{batches_of, replay_of, upto_from, IsOrdered}
use Rattle.value_snap.specs.Parts.{view_of_range}
use Rattle.value_snap.specs.Log.{FrontOf}
use Rattle.value_snap.specs.Showing.{after_op, ops_of, put_operations, IsReplay}
use Rattle.value_snap.specs.Views.{store_of, store_at}
use Rattle.value_snap.proofs.Fronts.{upto_grows}
use Rattle.value_snap.proofs.CellValues.{KeepsNoEmpty, changes_keep_no_empty, nothing_empty}

batches_full : (es : List Published) (b : Batch) → batches_of (es ++ Full b ∷ []) ≡ batches_of es ++ b ∷ []
batches_full [] b = refl
batches_full (Full c ∷ es) b = ap (λ (l : List Batch). c ∷ l) (batches_full es b)
batches_full (End ∷ es) b = batches_full es b

batches_end : (es : List Published) → batches_of (es ++ End ∷ []) ≡ batches_of es
batches_end [] = refl
batches_end (Full c ∷ es) = ap (λ (l : List Batch). c ∷ l) (batches_end es)
batches_end (End ∷ es) = batches_end es

pub replay_full : (size : Size) (es : List Published) (b : Batch) → replay_of size (es ++ Full b ∷ []) ≡ after_batch (replay_of size es) b
replay_full size es b = ap (replay size) (batches_full es b) ∙ fold-append after_batch (opening_snapshot size) (batches_of es) (b ∷ [])

pub replay_end : (size : Size) (es : List Published) → replay_of size (es ++ End ∷ []) ≡ replay_of size es
replay_end size es = ap (replay size) (batches_end es)

length_after : (s : Snapshot) (es : List Published) → (fold after_batch s (batches_of es)).length ≡ upto_from s.length es
length_after s [] = refl
length_after s (Full b ∷ es) = length_after (after_batch s b) es
length_after s (End ∷ es) = length_after s es

pub replay_length : (size : Size) (es : List Published) → (replay_of size es).length ≡ upto_from 0 es
replay_length size es = length_after (opening_snapshot size) es

-- the changes one after the other, and then the rest
puts_then : (s : Shown) (cs : List Change) (rest : List Op) → fold after_op s (put_operations cs ++ rest) ≡ fold after_op (record s { snap = record s.snap { cells = fold with_change s.snap.cells cs } }) rest
puts_then s [] rest = refl
puts_then s (c ∷ cs) rest = puts_then (record s { snap = record s.snap { cells = with_change s.snap.cells c } }) cs rest

batch_shown : (s : Shown) (b : Batch) (front : FrontOf) → fold after_op s (ops_of b front) ≡ record s { snap = after_batch s.snap b; front = front }
batch_shown s b front = puts_then s b.changes (Seal b.upto b.row_order b.col_order front ∷ [])

-- what the operations of a batch, or of the mark, keep of the store and of the replay
module _ (s : Shown) (ops : List Op) (front : FrontOf) where
  module _ (b : Batch) (is : ops ≡ ops_of b front) where
    shown : fold after_op s ops ≡ record s { snap = after_batch s.snap b; front = front }
    shown = ap (fold after_op s) is ∙ batch_shown s b front

    pub batch_store : front.book ≡ s.front.book → store_at (fold after_op s ops) ≡ store_at s
    batch_store same = ap store_at shown ∙ ap (λ (k : Book). store_of k s.size) same

    pub batch_size : (fold after_op s ops).size ≡ s.size
    batch_size = ap (λ (t : Shown). t.size) shown

    pub batch_front : (fold after_op s ops).front ≡ front
    batch_front = ap (λ (t : Shown). t.front) shown

    pub batch_replay : front.list ≡ s.front.list ++ Full b ∷ [] → IsReplay s → IsReplay (fold after_op s ops)
    batch_replay more kept =
        let here : IsReplay (record s { snap = after_batch s.snap b; front = front }) =
        ap (λ (x : Snapshot). after_batch x b) kept ∙ sym (replay_full s.size s.front.list b) ∙ ap (replay_of s.size) (sym more) in
        subst IsReplay (sym shown) here

  module _ (is : ops ≡ Mark front ∷ []) where
    pub mark_replay : front.list ≡ s.front.list ++ End ∷ [] → IsReplay s → IsReplay (fold after_op s ops)
    mark_replay more kept =
        let here : IsReplay (record s { front = front }) = kept ∙ sym (replay_end s.size s.front.list) ∙ ap (replay_of s.size) (sym more) in
        subst IsReplay (sym (ap (fold after_op s) is)) here

no_empty_after : (s : Snapshot) (es : List Published) → KeepsNoEmpty s.cells → KeepsNoEmpty (fold after_batch s (batches_of es)).cells
no_empty_after s [] none = none
no_empty_after s (Full b ∷ es) none = no_empty_after (after_batch s b) es (changes_keep_no_empty s.cells b.changes none)
no_empty_after s (End ∷ es) none = no_empty_after s es none

pub replay_no_empty : (size : Size) (es : List Published) → KeepsNoEmpty (replay_of size es).cells
replay_no_empty size es = no_empty_after (opening_snapshot size) es nothing_empty

-- what is read goes no less far than a list with which the one on show begins
pub seen_grows : (size : Size) (s : Snapshot) (old new : List Published) (v : View) (span : Span) → IsPrefixOf old new → IsOrdered new → s ≡ replay_of size new → v ≡ view_of_range s span → upto_from 0 old ≤ v.length
seen_grows size s old new v span begins ordered s_is v_is =
    let n : v.length ≡ upto_from 0 new = ap (λ (w : View). w.length) v_is ∙ ap (λ (t : Snapshot). t.length) s_is ∙ replay_length size new in
    subst (λ (k : ℕ). upto_from 0 old ≤ k) (sym n) (upto_grows old new begins ordered)
