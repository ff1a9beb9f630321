-- The lines of one axis after an effect.
use Rattle.std.proofs.Common.{◌≡◌, ℕ, zero, suc, ◌+◌, ◌<◌, ◌≤◌, Bool, true, false, cond, List, [], ◌∷◌, length, refl, ap, sym, ◌∙◌, arith, inl, inr, Option, Some, None}
use Rattle.std.specs.Prelude.{◌⊎◌, nat_lt, insert, slice_index_or}
use Rattle.std.proofs.lemmas.Bool.{cases_lt}
use Rattle.std.proofs.lemmas.Bool.Decides.{nat_tests}
use Rattle.std.proofs.lemmas.List.Edits.{length-insert, get_or-insert_at, get_or-insert_below, get_or-insert_above}
use Rattle.marked_lines.specs.Moves.{image, source, IsPerm, MovesBelow, after_insertion}
use Rattle.marked_lines.proofs.Permuting.{image_inside, source_below}
use Rattle.marked_lines.proofs.Shifts.{after_insertion-increases, after_insertion-injective}
use Rattle.marked_lines.proofs.Canonical.{one_to_one}
use Rattle.sheet_ops.specs.LineIds.{LineId, id_eq}
use Rattle.sheet_ops.specs.Lines.{AxisLine, Axis, new_line, no_line, rec_at, rec_place, slot_at, slot_place, before_place, inserted, lines_moved_from, moved}
use Rattle.sheet_ops.specs.Maps.{LineMap, unmoved, past_insertion, past_moves}
use Rattle.sheet_ops.specs.Fits.{Avoids, AreApart, IsWellFormedAxis}
use Rattle.sheet_ops.proofs.Ids.{id_eq-other}
use Rattle.sheet_ops.proofs.Places.{at_inside, id_at, avoided, one_place, apart_from, at_of_place, place_of_at}

-- what stood at a position stands where the map says
pub record Stands (A B : Axis) (m : LineMap) : Type 0 where
  pub recs_below : (p : ℕ) → p < length A.lines → m.rec p < length B.lines
  pub recs_stand : (p : ℕ) → p < length A.lines → rec_at B (m.rec p) ≡ rec_at A p
  pub slots_below : (p : ℕ) → p < length A.lines → m.slot p < length B.lines
  pub slots_stand : (p : ℕ) → p < length A.lines → slot_at B (m.slot p) ≡ slot_at A p
  pub end : m.slot (length A.lines) ≡ length B.lines

-- and nothing stands at two places afterwards
pub record Carries (A B : Axis) (m : LineMap) : Type 0 where
  pub stands : Stands A B m
  pub formed : IsWellFormedAxis B

-- then what is there is found where the map says
module _ (A B : Axis) (m : LineMap) (c : Carries A B m) where
  pub rec_carried : (id : LineId) → rec_place A id < length A.lines → rec_place B id ≡ m.rec (rec_place A id)
  rec_carried id k =
      ap (rec_place B) (sym (c.stands.recs_stand (rec_place A id) k ∙ at_of_place (λ l. l.rec) A.lines id k))
      ∙ place_of_at (λ l. l.rec) B.lines c.formed.recs (m.rec (rec_place A id)) (c.stands.recs_below (rec_place A id) k)

  pub slot_carried : (id : LineId) → slot_place A id < length A.lines → slot_place B id ≡ m.slot (slot_place A id)
  slot_carried id k =
      ap (slot_place B) (sym (c.stands.slots_stand (slot_place A id) k ∙ at_of_place (λ l. l.slot) A.lines id k))
      ∙ place_of_at (λ l. l.slot) B.lines c.formed.slots (m.slot (slot_place A id)) (c.stands.slots_below (slot_place A id) k)

  pub before_carried : (b : Option LineId) → before_place A b ≤ length A.lines → before_place B b ≡ m.slot (before_place A b)
  before_carried None k = sym c.stands.end
  before_carried (Some id) k = by_test (nat_lt (slot_place A id) (length A.lines)) refl k
    where
      by_test : (t : Bool) → nat_lt (slot_place A id) (length A.lines) ≡ t → cond t (slot_place A id) (suc (slot_place A id)) ≤ length A.lines →
          before_place B (Some id) ≡ m.slot (cond t (slot_place A id) (suc (slot_place A id)))
      by_test false e j = absurd (let h : length A.lines ≤ slot_place A id = grind (arith, nat_tests) in omega arith)
      by_test true e j =
          let inside : slot_place A id < length A.lines = grind (arith, nat_tests) in
          let found = slot_carried id inside in
          let below = c.stands.slots_below (slot_place A id) inside in
          let test : nat_lt (m.slot (slot_place A id)) (length B.lines) ≡ true = grind (arith, nat_tests) in
          ap (λ p. cond (nat_lt p (length B.lines)) p (suc p)) found ∙ ap (λ t. cond t (m.slot (slot_place A id)) (suc (m.slot (slot_place A id)))) test

-- ---- the same lines
pub stands_same : (A : Axis) (dead : LineId → Bool) → Stands A (record A { dead = dead }) unmoved
stands_same A dead = record { recs_below = λ p k. k; recs_stand = λ p k. refl; slots_below = λ p k. k; slots_stand = λ p k. refl; end = refl }

pub carries_same : (A : Axis) (dead : LineId → Bool) → IsWellFormedAxis A → Carries A (record A { dead = dead }) unmoved
carries_same A dead ok = record { stands = stands_same A dead; formed = record { slots = ok.slots; recs = ok.recs } }

-- ---- a new line
module _ {A : Type 0} where
  pub inserted_at : (xs : List A) (q : ℕ) (x d : A) (p : ℕ) → q ≤ length xs → slice_index_or (insert xs q x) (after_insertion q p) d ≡ slice_index_or xs p d
  inserted_at xs q x d p h = by_side (cases_lt p q)
    where
      by_side : ((p < q) ⊎ (q ≤ p)) → slice_index_or (insert xs q x) (after_insertion q p) d ≡ slice_index_or xs p d
      by_side (inl k) = let e : after_insertion q p ≡ p = grind (arith, nat_tests) in ap (λ j. slice_index_or (insert xs q x) j d) e ∙ get_or-insert_below xs q x d p k h
      by_side (inr k) = let e : after_insertion q p ≡ p + 1 = grind (arith, nat_tests) in ap (λ j. slice_index_or (insert xs q x) j d) e ∙ get_or-insert_above xs q x d p k h

pub after_below : (q p n : ℕ) → p < n → after_insertion q p < n + 1
after_below q p n h = grind (arith, nat_tests)

after_end : (q n : ℕ) → q ≤ n → after_insertion q n ≡ n + 1
after_end q n h = grind (arith, nat_tests)

-- every position is that of the new line or one from before
pub new_or_old : (q r n : ℕ) → r < n + 1 → q ≤ n → (r ≡ q) ⊎ ((p : ℕ) × (p < n) × (after_insertion q p ≡ r))
new_or_old q r n h j = by_side (cases_lt r q) (cases_lt q r)
  where
    by_side : ((r < q) ⊎ (q ≤ r)) → ((q < r) ⊎ (r ≤ q)) → (r ≡ q) ⊎ ((p : ℕ) × (p < n) × (after_insertion q p ≡ r))
    by_side (inl k) other = inr (r, omega arith, grind (arith, nat_tests))
    by_side (inr k) (inr l) = inl (omega arith)
    by_side (inr k) (inl l) = by_number r refl
      where
        by_number : (s : ℕ) → r ≡ s → (r ≡ q) ⊎ ((p : ℕ) × (p < n) × (after_insertion q p ≡ r))
        by_number zero e = absurd (omega arith)
        by_number (suc s) e = inr (s, omega arith, let is : after_insertion q s ≡ s + 1 = grind (arith, nat_tests) in is ∙ omega arith)

module _ (of : AxisLine → LineId) where
  pub apart_inserted : (ls : List AxisLine) (q : ℕ) (l : AxisLine) → AreApart of ls → Avoids of ls (of l) → q ≤ length ls → AreApart of (insert ls q l)
  apart_inserted ls q l apart avoids h = apart_from of (insert ls q l) (λ r s k j e. by_places r s (new_or_old q r (length ls) (few r k) h) (new_or_old q s (length ls) (few s j) h) e)
    where
      few : (r : ℕ) → r < length (insert ls q l) → r < length ls + 1
      few r k = rw (length-insert ls q l h) at k

      at_new : id_at of (insert ls q l) q ≡ of l
      at_new = ap of (get_or-insert_at ls q l no_line h)

      at_old : (p : ℕ) → id_at of (insert ls q l) (after_insertion q p) ≡ id_at of ls p
      at_old p = ap of (inserted_at ls q l no_line p h)

      by_places : (r s : ℕ) → ((r ≡ q) ⊎ ((p : ℕ) × (p < length ls) × (after_insertion q p ≡ r))) → ((s ≡ q) ⊎ ((p : ℕ) × (p < length ls) × (after_insertion q p ≡ s))) →
          id_eq (id_at of (insert ls q l) r) (id_at of (insert ls q l) s) ≡ true → r ≡ s
      by_places r s (inl a) (inl b) e = a ∙ sym b
      by_places r s (inl a) (inr (p, k, b)) e = absurd (
          let seen : id_eq (of l) (id_at of ls p) ≡ true = sym (λ i. id_eq ((ap (id_at of (insert ls q l)) a ∙ at_new) i) ((ap (id_at of (insert ls q l)) (sym b) ∙ at_old p) i)) ∙ e in
          let clash : true ≡ false = sym seen ∙ id_eq-other (id_at of ls p) (of l) (avoided of ls (of l) avoids p k) in cc)
      by_places r s (inr (p, k, b)) (inl a) e = absurd (
          let seen : id_eq (id_at of ls p) (of l) ≡ true = sym (λ i. id_eq ((ap (id_at of (insert ls q l)) (sym b) ∙ at_old p) i) ((ap (id_at of (insert ls q l)) a ∙ at_new) i)) ∙ e in
          let clash : true ≡ false = sym seen ∙ avoided of ls (of l) avoids p k in cc)
      by_places r s (inr (p, k, b)) (inr (p', k', b')) e =
          let seen : id_eq (id_at of ls p) (id_at of ls p') ≡ true = sym (λ i. id_eq ((ap (id_at of (insert ls q l)) (sym b) ∙ at_old p) i) ((ap (id_at of (insert ls q l)) (sym b') ∙ at_old p') i)) ∙ e in
          sym b ∙ (ap (after_insertion q) (one_place of ls apart p p' k k' seen) ∙ b')

pub stands_inserted : (A : Axis) (q : ℕ) (id : LineId) → q ≤ length A.lines → Stands A (inserted A q id) (past_insertion q)
stands_inserted A q id h = record {
  recs_below = λ p k. rw (length-insert A.lines q (new_line id) h) (after_below q p (length A.lines) k);
  recs_stand = λ p k. ap (λ (l : AxisLine). l.rec) (inserted_at A.lines q (new_line id) no_line p h);
  slots_below = λ p k. rw (length-insert A.lines q (new_line id) h) (after_below q p (length A.lines) k);
  slots_stand = λ p k. ap (λ (l : AxisLine). l.slot) (inserted_at A.lines q (new_line id) no_line p h);
  end = after_end q (length A.lines) h ∙ sym (length-insert A.lines q (new_line id) h);
}

pub formed_inserted : (A : Axis) (q : ℕ) (id : LineId) → IsWellFormedAxis A → Avoids (λ l. l.slot) A.lines id → Avoids (λ l. l.rec) A.lines id → q ≤ length A.lines → IsWellFormedAxis (inserted A q id)
formed_inserted A q id ok slots recs h = record {
  slots = apart_inserted (λ l. l.slot) A.lines q (new_line id) ok.slots slots h;
  recs = apart_inserted (λ l. l.rec) A.lines q (new_line id) ok.recs recs h;
}

-- ---- records that move
pub length-lines_moved_from : (moves : List (ℕ × ℕ)) (all : List AxisLine) (q : ℕ) (ls : List AxisLine) → length (lines_moved_from moves all q ls) ≡ length ls
length-lines_moved_from moves all q [] = refl
length-lines_moved_from moves all q (l ∷ ls) = ap suc (length-lines_moved_from moves all (suc q) ls)

at_moved_from : (moves : List (ℕ × ℕ)) (all : List AxisLine) (q : ℕ) (ls : List AxisLine) (k : ℕ) (d : AxisLine) → k < length ls →
    slice_index_or (lines_moved_from moves all q ls) k d ≡ record { slot = (slice_index_or ls k d).slot; rec = (slice_index_or all (source moves (q + k)) (slice_index_or ls k d)).rec }
at_moved_from moves all q [] k d within = absurd (omega arith)
at_moved_from moves all q (l ∷ ls) zero d within = let e : q ≡ q + 0 = omega arith in λ i. record { slot = l.slot; rec = (slice_index_or all (source moves (e i)) l).rec }
at_moved_from moves all q (l ∷ ls) (suc k) d within =
    let e : suc q + k ≡ q + suc k = omega arith in
    at_moved_from moves all (suc q) ls k d (omega arith) ∙ (λ i. record { slot = (slice_index_or ls k d).slot; rec = (slice_index_or all (source moves (e i)) (slice_index_or ls k d)).rec })

pub length-moved : (A : Axis) (moves : List (ℕ × ℕ)) → length (moved A moves).lines ≡ length A.lines
length-moved A moves = length-lines_moved_from moves A.lines 0 A.lines

-- what stands at a position afterwards
pub slot_moved : (A : Axis) (moves : List (ℕ × ℕ)) (p : ℕ) → p < length A.lines → slot_at (moved A moves) p ≡ slot_at A p
slot_moved A moves p k = ap (λ (l : AxisLine). l.slot) (at_moved_from moves A.lines 0 A.lines p no_line k)

pub rec_moved : (A : Axis) (moves : List (ℕ × ℕ)) → MovesBelow (length A.lines) moves → (p : ℕ) → p < length A.lines → rec_at (moved A moves) p ≡ rec_at A (source moves p)
rec_moved A moves below p k =
    let e : 0 + p ≡ p = omega arith in
    ap (λ (l : AxisLine). l.rec) (at_moved_from moves A.lines 0 A.lines p no_line k)
    ∙ (ap (λ j. (slice_index_or A.lines (source moves j) (slice_index_or A.lines p no_line)).rec) e
    ∙ ap (λ (l : AxisLine). l.rec) (at_inside A.lines (source moves p) (slice_index_or A.lines p no_line) no_line (source_below moves (length A.lines) p below k)))

module _ (A : Axis) (moves : List (ℕ × ℕ)) (perm : IsPerm moves) (below : MovesBelow (length A.lines) moves) where
  pub stands_moved : Stands A (moved A moves) (past_moves moves)
  stands_moved = record {
    recs_below = λ p k. rw (length-moved A moves) (image_inside moves perm (length A.lines) p below k);
    recs_stand = λ p k. rec_moved A moves below (image moves p) (image_inside moves perm (length A.lines) p below k) ∙ ap (rec_at A) (perm.back p);
    slots_below = λ p k. rw (length-moved A moves) k;
    slots_stand = λ p k. slot_moved A moves p k;
    end = sym (length-moved A moves);
  }

  pub formed_moved : IsWellFormedAxis A → IsWellFormedAxis (moved A moves)
  formed_moved ok = record {
    slots = apart_from (λ l. l.slot) (moved A moves).lines (λ p q k j e.
        let k' = rw (length-moved A moves) at k in
        let j' = rw (length-moved A moves) at j in
        one_place (λ l. l.slot) A.lines ok.slots p q k' j' (sym (λ i. id_eq (slot_moved A moves p k' i) (slot_moved A moves q j' i)) ∙ e));
    recs = apart_from (λ l. l.rec) (moved A moves).lines (λ p q k j e.
        let k' = rw (length-moved A moves) at k in
        let j' = rw (length-moved A moves) at j in
        let same : source moves p ≡ source moves q =
        one_place (λ l. l.rec) A.lines ok.recs (source moves p) (source moves q) (source_below moves (length A.lines) p below k') (source_below moves (length A.lines) q below j')
        (sym (λ i. id_eq (rec_moved A moves below p k' i) (rec_moved A moves below q j' i)) ∙ e) in
        sym (perm.forth p) ∙ (ap (image moves) same ∙ perm.forth q));
  }

-- ---- what keeps operations fitting
pub record KeepsFit (m : LineMap) (n n' : ℕ) : Type 0 where
  pub rec_below : (p : ℕ) → p < n → m.rec p < n'
  pub rec_apart : (p q : ℕ) → m.rec p ≡ m.rec q → p ≡ q
  pub slot_below : (p : ℕ) → p < n → m.slot p < n'
  pub slot_end : m.slot n ≤ n'
  pub slot_up : (p q : ℕ) → p < q → m.slot p < m.slot q

pub unmoved_fit : (n : ℕ) → KeepsFit unmoved n n
unmoved_fit n = record { rec_below = λ p k. k; rec_apart = λ p q e. e; slot_below = λ p k. k; slot_end = omega arith; slot_up = λ p q k. k }

pub insertion_fit : (q n n' : ℕ) → q ≤ n → n' ≡ n + 1 → KeepsFit (past_insertion q) n n'
insertion_fit q n n' h e = record {
  rec_below = λ p k. let j = after_below q p n k in omega arith;
  rec_apart = after_insertion-injective q;
  slot_below = λ p k. let j = after_below q p n k in omega arith;
  slot_end = let j = after_end q n h in omega arith;
  slot_up = after_insertion-increases q;
}

pub moves_fit : (moves : List (ℕ × ℕ)) (n : ℕ) → IsPerm moves → MovesBelow n moves → KeepsFit (past_moves moves) n n
moves_fit moves n perm below = record {
  rec_below = λ p k. image_inside moves perm n p below k;
  rec_apart = one_to_one moves perm;
  slot_below = λ p k. k;
  slot_end = omega arith;
  slot_up = λ p q k. k;
}
