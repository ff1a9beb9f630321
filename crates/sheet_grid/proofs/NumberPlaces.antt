-- What holds of the lines of an axis, and where a number is found.
use Rattle.std.proofs.Common.{◌≡◌, ℕ, zero, suc, ◌<◌, ◌≤◌, ◌++◌, Bool, true, false, cond, List, [], ◌∷◌, length, refl, ap, sym, ◌∙◌, subst, arith, Option, Some, None}
use Rattle.std.specs.Prelude.{◌↔◌, map, slice_get, slice_index, slice_index_or, slice_set, unwrap_or, IfSome, IsNone}
use Rattle.std.proofs.Math.ListN.{length-set}
use Rattle.marked_lines.specs.Moves.{image, IsPerm, MovesBelow, after_insertion}
use Rattle.sheet_ops.specs.LineIds.{opening_id}
use Rattle.sheet_ops.specs.Lines.{rec_place, slot_place}
use Rattle.sheet_ops.proofs.Places.{place_of_at}
use Rattle.sheet_grid.specs.Kept.{NumberedAxis, axis, line_added, recs_moved}
use Rattle.sheet_grid.specs.Numbers.{mark_of}
use Rattle.sheet_grid.specs.Numbering.{IsAxis, place_of_rec, place_of_slot, is_dead}
use Rattle.sheet_grid.proofs.Compared.{below_test, above_test}
use Rattle.sheet_grid.proofs.Meanings.{slot_there, rec_there, length-lines_of}
use Rattle.sheet_grid.proofs.WellFormed.{axis_formed}
use Rattle.sheet_grid.proofs.AddedLines.{kept_line_added}
use Rattle.sheet_grid.proofs.MovedRecords.{kept_recs_moved, mark_at}
use Rattle.sheet_grid.proofs.InsertedNumbers.{numbered_apart}

pub axis_line_added : (k : NumberedAxis) → IsAxis k → (p : ℕ) → p ≤ length k.slots → length k.slots < 16000 → (new : NumberedAxis) → new ≡ line_added k p → IsAxis new
axis_line_added k (sp, rp, ok) p h room new e = subst IsAxis (sym e) (map (after_insertion p) sp ++ p ∷ [], map (after_insertion p) rp ++ p ∷ [], kept_line_added k sp rp ok p h room)

pub axis_moved_still : (k : NumberedAxis) → IsAxis k → (moves : List (ℕ × ℕ)) → IsPerm moves → MovesBelow (length k.slots) moves → (new : NumberedAxis) → new ≡ recs_moved k moves → IsAxis new
axis_moved_still k (sp, rp, ok) moves perm below new e = subst IsAxis (sym e) (sp, map (image moves) rp, kept_recs_moved k sp rp ok moves perm below)

pub axis_marked_still : (k : NumberedAxis) → IsAxis k → (p : ℕ) → IsAxis (record k { marks = slice_set k.marks p true })
axis_marked_still k (sp, rp, ok) p = (sp, rp, record { slots = ok.slots; recs = ok.recs; as_many = ok.as_many; marked = length-set k.marks p true ∙ ok.marked })

pub recs_count : (k : NumberedAxis) → IsAxis k → length k.recs ≡ length k.slots
recs_count k (sp, rp, ok) = ok.as_many

pub marks_count : (k : NumberedAxis) → IsAxis k → length k.marks ≡ length k.slots
marks_count k (sp, rp, ok) = ok.marked ∙ ok.as_many

-- what has the number that stands at a position is found there
module _ (k : NumberedAxis) (ax : IsAxis k) (p : ℕ) (h : p < length k.slots) where
  pub rec_at-place : place_of_rec k (slice_index k.recs p) ≡ Some p
  rec_at-place =
      let e = recs_count k ax in
      let below : slice_index k.recs p < length k.slots = let b = ax.2.recs.back p (omega (arith, e, h)) in omega (arith, b.0, e) in
      let place : rec_place (axis k) (opening_id (slice_index k.recs p)) ≡ p =
      ap (rec_place (axis k)) (sym (rec_there k.slots k.recs p e h))
      ∙ place_of_at (λ l. l.rec) (axis k).lines (axis_formed k ax.0 ax.1 ax.2).recs p (let l = length-lines_of k.slots k.recs e in omega (arith, l, h)) in
      λ i. cond (below_test (slice_index k.recs p) (length k.slots) below i) (Some (place i)) None

  pub slot_at-place : place_of_slot k (slice_index k.slots p) ≡ Some p
  slot_at-place =
      let e = recs_count k ax in
      let below : slice_index k.slots p < length k.slots = let b = ax.2.slots.back p h in omega (arith, b.0) in
      let place : slot_place (axis k) (opening_id (slice_index k.slots p)) ≡ p =
      ap (slot_place (axis k)) (sym (slot_there k.slots k.recs p e h))
      ∙ place_of_at (λ l. l.slot) (axis k).lines (axis_formed k ax.0 ax.1 ax.2).slots p (let l = length-lines_of k.slots k.recs e in omega (arith, l, h)) in
      λ i. cond (below_test (slice_index k.slots p) (length k.slots) below i) (Some (place i)) None

module _ (k : NumberedAxis) (ax : IsAxis k) (n : ℕ) where
  pub rec_place-is : (o : Option ℕ) → IfSome o (λ p. (p < length k.recs) × (slice_index k.recs p ≡ n)) → (IsNone o ↔ (length k.recs ≤ n)) → o ≡ place_of_rec k n
  rec_place-is None h none = let above = none.0 refl in ap (λ t. cond t (Some (rec_place (axis k) (opening_id n))) None) (sym (above_test n (length k.slots) (let e = recs_count k ax in omega arith)))
  rec_place-is (Some p) h none = sym (ap (place_of_rec k) (sym h.1) ∙ rec_at-place k ax p (let e = recs_count k ax in let j = h.0 in omega arith))

  pub slot_place-is : (o : Option ℕ) → IfSome o (λ p. (p < length k.slots) × (slice_index k.slots p ≡ n)) → (IsNone o ↔ (length k.slots ≤ n)) → o ≡ place_of_slot k n
  slot_place-is None h none = ap (λ t. cond t (Some (slot_place (axis k) (opening_id n))) None) (sym (above_test n (length k.slots) (none.0 refl)))
  slot_place-is (Some p) h none = sym (ap (place_of_slot k) (sym h.1) ∙ slot_at-place k ax p h.0)

-- the mark at the position of a record is the record's
got_or : {A : Type 0} (xs : List A) (i : ℕ) (x d : A) → slice_get xs i ≡ Some x → slice_index_or xs i d ≡ x
got_or {A} [] i x d e = absurd (cc)
got_or {A} (y ∷ xs) zero x d e = ap (λ (o : Option A). unwrap_or o d) e
got_or {A} (y ∷ xs) (suc i) x d e = got_or xs i x d e

pub dead_is : (k : NumberedAxis) → IsAxis k → (n p : ℕ) (b : Bool) → p < length k.recs → slice_index k.recs p ≡ n → slice_get k.marks p ≡ Some b → b ≡ is_dead k n
dead_is k (sp, rp, ok) n p b h at mark =
    sym (got_or k.marks p b false mark)
    ∙ (sym (mark_at k.recs k.marks p ok.marked h (numbered_apart k.recs rp ok.recs))
    ∙ ap (mark_of k.recs k.marks) at)

pub marks_few : (k : NumberedAxis) → IsAxis k → length k.marks ≤ 16000
marks_few k (sp, rp, ok) = let e = ok.marked in let f = ok.recs.few in omega arith
