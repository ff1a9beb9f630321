-- What published lists stand for, when one more batch is published.
use Rattle.std.proofs.Common.{◌≡◌, ℕ, zero, suc, List, [], ◌∷◌, ◌++◌, length, map, refl, ap, sym, ◌∙◌, subst, inl, inr, append_assoc, Some, None}
use Rattle.std.specs.Prelude.{◌⊎◌, All, slice_get}
use Rattle.std.specs.List.{AllZip, AllByRecursion}
use Rattle.std.proofs.lemmas.List.{append-nil}
use Rattle.std.proofs.lemmas.List.Elements.{All-from_recursion, recursion_from_All}
use Rattle.ss_base.specs.declared.types.Size.{Size}
use Rattle.ss_base.specs.Lists.{IsPrefixOf}
use Rattle.sheet_ops.specs.declared.operation.Entry.{Entry}
use Rattle.sheet_ops.specs.Identity.{opened}
use Rattle.sheet_ops.specs.History.{sheet_of}
use Rattle.sheet_value.specs.declared.batch.Batch.{Batch}
use Rattle.sheet_value.specs.Snapshots.{Snapshot, after_batch, opening_snapshot}
use Rattle.sheet_value.specs.Tables.{Table}
use Rattle.full_calc.specs.Values.{value_table}
use Rattle.full_calc.specs.Shown.{HasItsSize}
use Rattle.full_calc.proofs.Shows.{table_shaped}
use Rattle.value_snap.specs.declared.published.Published.{Published}
use Rattle.value_snap.specs.declared.published.Published.TheVariants.{Full}
use Rattle.value_snap.specs.Lists.{replay_of}
use Rattle.value_snap.proofs.Replays.{replay_full}
use Rattle.recalc_loop.specs.Changes.{batch_between}
use Rattle.recalc_loop.specs.Standing.{StandsFor, EachStands, IsSnapshotOf}
use Rattle.recalc_loop.proofs.Openings.{opened_values}
use Rattle.recalc_loop.proofs.Snapshots.{snapshot_after, values_shown, opening_is}

-- ---- beginnings of lists
module _ {A : Type 0} where
  pub prefix_trans : (xs ys zs : List A) → IsPrefixOf xs ys → IsPrefixOf ys zs → IsPrefixOf xs zs
  prefix_trans xs ys zs p q = (p.0 ++ q.0, sym (append_assoc xs p.0 q.0) ∙ (ap (λ (l : List A). l ++ q.0) p.1 ∙ q.1))

  -- a beginning of a list with one element more is one of the list, or is all
  prefix_push : (xs ys : List A) (x : A) → IsPrefixOf xs (ys ++ x ∷ []) → IsPrefixOf xs ys ⊎ (xs ≡ ys ++ x ∷ [])
  prefix_push [] ys x p = inl (ys, refl)
  prefix_push (y ∷ []) [] x p = inr (let is : y ∷ p.0 ≡ x ∷ [] = p.1 in cc)
  prefix_push (y ∷ (z ∷ zs)) [] x p = absurd (let is : y ∷ (z ∷ (zs ++ p.0)) ≡ x ∷ [] = p.1 in cc)
  prefix_push (y ∷ xs) (z ∷ ys) x p =
      let is : y ∷ (xs ++ p.0) ≡ z ∷ (ys ++ x ∷ []) = p.1 in
      let same : y ≡ z = cc in
      both y xs z ys x same (prefix_push xs ys x (p.0, cc))
    where
      both : (y : A) (xs : List A) (z : A) (ys : List A) (x : A) → y ≡ z → IsPrefixOf xs ys ⊎ (xs ≡ ys ++ x ∷ []) → IsPrefixOf (y ∷ xs) (z ∷ ys) ⊎ (y ∷ xs ≡ (z ∷ ys) ++ x ∷ [])
      both y xs z ys x same (inl q) = inl (q.0, λ i. same i ∷ q.1 i)
      both y xs z ys x same (inr e) = inr (λ i. same i ∷ e i)

-- ---- what holds of each element
module _ {A : Type 0} where
  pub all_map : {B : Type 0} (P : B → Type 0) (f : A → B) (xs : List A) → All (λ x. P (f x)) xs → All P (map f xs)
  all_map P f xs all = All-from_recursion P (map f xs) (each xs (recursion_from_All (λ x. P (f x)) xs all))
    where
      each : (xs : List A) → AllByRecursion (λ x. P (f x)) xs → AllByRecursion P (map f xs)
      each [] h = tt
      each (x ∷ xs) h = (h.0, each xs h.1)

  pub all_zip : {B : Type 0} (P : A → Type 0) (Q : B → Type 0) (R : A → B → Type 0) → ((x : A) (y : B) → R x y → P x → Q y) → (xs : List A) (ys : List B) → AllZip R xs ys → All P xs → All Q ys
  all_zip {B} P Q R step xs ys zipped all = All-from_recursion Q ys (each xs ys zipped (recursion_from_All P xs all))
    where
      each : (xs : List A) (ys : List B) → AllZip R xs ys → AllByRecursion P xs → AllByRecursion Q ys
      each [] [] z h = tt
      each [] (y ∷ ys) z h = absurd z
      each (x ∷ xs) [] z h = absurd z
      each (x ∷ xs) (y ∷ ys) z h = (step x y z.0 h.0, each xs ys z.1 h.1)

  pub zip_there : {B : Type 0} (R : A → B → Type 0) (xs : List A) (ys : List B) → AllZip R xs ys → (i : ℕ) (y : B) → slice_get ys i ≡ Some y → (x : A) × (slice_get xs i ≡ Some x) × R x y
  zip_there R [] [] z zero y is = absurd (let clash : None ≡ Some y = is in cc)
  zip_there R [] [] z (suc i) y is = absurd (let clash : None ≡ Some y = is in cc)
  zip_there R [] (y' ∷ ys) z i y is = absurd z
  zip_there R (x ∷ xs) [] z i y is = absurd z
  zip_there {B} R (x ∷ xs) (y' ∷ ys) z zero y is = (x, refl, subst (R x) (same y' y is) z.0)
    where
      same : (y' y : B) → Some y' ≡ Some y → y' ≡ y
      same y' y e = cc
  zip_there R (x ∷ xs) (y' ∷ ys) z (suc i) y is = zip_there R xs ys z.1 i y is

  pub length_zip : {B : Type 0} (R : A → B → Type 0) (xs : List A) (ys : List B) → AllZip R xs ys → length ys ≡ length xs
  length_zip R [] [] z = refl
  length_zip R [] (y ∷ ys) z = absurd z
  length_zip R (x ∷ xs) [] z = absurd z
  length_zip R (x ∷ xs) (y ∷ ys) z = ap suc (length_zip R xs ys z.1)

-- ---- lists and histories
module _ (size : Size) where
  pub stands : (list : List Published) (H : List Entry) (T : Table) → (replay_of size list).length ≡ length H → HasItsSize T → T ≡ value_table (sheet_of size H) → IsSnapshotOf T (replay_of size list) → StandsFor size list H
  stands list H T count whole is shown = record { count = count; values = values_shown T whole (replay_of size list) shown ∙ is }

  -- a table of values has its size
  pub values_whole : (H : List Entry) (T : Table) → T ≡ value_table (sheet_of size H) → HasItsSize T
  values_whole H T is = subst HasItsSize (sym is) (table_shaped (sheet_of size H))

  -- before anything is published
  pub first_shown : IsSnapshotOf (value_table (opened size)) (replay_of size [])
  first_shown = subst (λ (T : Table). IsSnapshotOf T (opening_snapshot size)) (opened_values size) (opening_is size)

  pub first_stands : StandsFor size [] []
  first_stands = stands [] [] (value_table (opened size)) refl (table_shaped (opened size)) refl first_shown

  pub each_first : (H : List Entry) → EachStands size [] H
  each_first H [] p = ([], (H, refl), first_stands)
  each_first H (x ∷ xs) p = absurd (let is : x ∷ (xs ++ p.0) ≡ [] = p.1 in cc)

  -- the history goes on
  pub each_later : (list : List Published) (h H : List Entry) → IsPrefixOf h H → EachStands size list h → EachStands size list H
  each_later list h H more each before p = let (k, q, s) = each before p in (k, prefix_trans k h H q more, s)

  -- one batch more
  pub each_more : (list : List Published) (b : Batch) (H : List Entry) → EachStands size list H → StandsFor size (list ++ Full b ∷ []) H → EachStands size (list ++ Full b ∷ []) H
  each_more list b H each whole before p = by_place (prefix_push before list (Full b) p)
    where
      by_place : IsPrefixOf before list ⊎ (before ≡ list ++ Full b ∷ []) → (h : List Entry) × IsPrefixOf h H × StandsFor size before h
      by_place (inl q) = each before q
      by_place (inr is) = (H, ([], append-nil H), subst (λ (l : List Published). StandsFor size l H) (sym is) whole)

  -- the batch between the values of two histories leads from the one to the other
  module _ (h H : List Entry) (old new : Table) (old_is : old ≡ value_table (sheet_of size h)) (new_is : new ≡ value_table (sheet_of size H)) (b : Batch) (b_is : b ≡ batch_between (length H) old new) (list : List Published) (shown : IsSnapshotOf old (replay_of size list)) where
    after : replay_of size (list ++ Full b ∷ []) ≡ after_batch (replay_of size list) (batch_between (length H) old new)
    after = replay_full size list b ∙ ap (after_batch (replay_of size list)) b_is

    pub shown_after : IsSnapshotOf new (replay_of size (list ++ Full b ∷ []))
    shown_after = subst (λ (s : Snapshot). IsSnapshotOf new s) (sym after) (snapshot_after old new (values_whole h old old_is) (values_whole H new new_is) (length H) (replay_of size list) shown)

    pub stands_after : StandsFor size (list ++ Full b ∷ []) H
    stands_after = stands (list ++ Full b ∷ []) H new (ap (λ (s : Snapshot). s.length) after) (values_whole H new new_is) new_is shown_after
