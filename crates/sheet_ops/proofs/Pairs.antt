-- Two operations on the lines of one axis, in one order and the other.
use Rattle.std.proofs.Common.{◌≡◌, ℕ, zero, suc, ◌+◌, ◌<◌, ◌≤◌, Bool, true, false, cond, List, [], ◌∷◌, length, get_or, refl, ap, sym, ◌∙◌, arith, inl, inr}
use Rattle.std.specs.Prelude.{◌⊎◌, ◌||◌, nat_lt, map, insert, slice_index_or}
use Rattle.std.proofs.lemmas.Bool.Decides.{nat_tests}
use Rattle.std.proofs.lemmas.List.{same_lists}
use Rattle.std.proofs.lemmas.List.Edits.{length-insert, get_or-insert_at}
use Rattle.marked_lines.specs.Moves.{image, turned, source, shifted, MovesBelow, after_insertion}
use Rattle.marked_lines.proofs.Shifts.{image_shifted, image_shifted-keeps}
use Rattle.std.proofs.lemmas.List.Elements.{All-map}
use Rattle.sheet_ops.specs.LineIds.{LineId, id_eq}
use Rattle.sheet_ops.specs.Lines.{AxisLine, Axis, new_line, no_line, rec_at, inserted, deleted, moved}
use Rattle.sheet_ops.specs.Transforms.{insertion_past}
use Rattle.sheet_ops.proofs.Places.{at_inside}
use Rattle.sheet_ops.proofs.Carried.{inserted_at, new_or_old, length-moved, slot_moved, rec_moved, after_below, stands_inserted}

-- two insertions; the second stands left of what the first brought where they meet
insert_left : {A : Type 0} (p q : ℕ) (x y : A) (zs : List A) → p ≤ length zs → q ≤ p → insert (insert zs q y) (suc p) x ≡ insert (insert zs p x) q y
insert_left p zero x y zs h k = refl
insert_left zero (suc q) x y zs h k = absurd (omega arith)
insert_left (suc p) (suc q) x y [] h k = absurd (omega arith)
insert_left (suc p) (suc q) x y (z ∷ zs) h k = ap (λ ws. z ∷ ws) (insert_left p q x y zs (omega arith) (omega arith))

pub insertions_meet : (A : Axis) (p q : ℕ) (id other : LineId) → p ≤ length A.lines → q ≤ length A.lines →
    inserted (inserted A q other) (after_insertion q p) id ≡ inserted (inserted A p id) (insertion_past p q) other
insertions_meet A p q id other h k = ap (λ (ls : List AxisLine). record A { lines = ls }) (by_side (nat_lt p q) refl)
  where
    by_side : (t : Bool) → nat_lt p q ≡ t →
        insert (insert A.lines q (new_line other)) (cond t p (p + 1)) (new_line id) ≡ insert (insert A.lines p (new_line id)) (cond t (suc q) q) (new_line other)
    by_side true e = sym (insert_left q p (new_line other) (new_line id) A.lines k (let lt : p < q = grind (arith, nat_tests) in omega arith))
    by_side false e =
        let s : p + 1 ≡ suc p = omega arith in
        ap (λ n. insert (insert A.lines q (new_line other)) n (new_line id)) s ∙ insert_left p q (new_line id) (new_line other) A.lines h (grind (arith, nat_tests))

-- a deletion after an insertion marks the record that it marked before
pub deletion_after_insertion : (A : Axis) (p q : ℕ) (id : LineId) → p ≤ length A.lines → q < length A.lines →
    inserted (deleted A (rec_at A q)) p id ≡ deleted (inserted A p id) (rec_at (inserted A p id) (after_insertion p q))
deletion_after_insertion A p q id h k = ap (λ (r : LineId). deleted (inserted A p id) r) (sym ((stands_inserted A p id h).recs_stand q k))

pub deletions_meet : (A : Axis) (r s : LineId) → deleted (deleted A s) r ≡ deleted (deleted A r) s
deletions_meet A r s = λ i. record A { dead = λ id. swapped (id_eq r id) (id_eq s id) (A.dead id) i }
  where
    swapped : (a b c : Bool) → a || (b || c) ≡ b || (a || c)
    swapped true true c = refl
    swapped true false c = refl
    swapped false true c = refl
    swapped false false c = refl

-- ---- an insertion and moves
turned_shifted : (p : ℕ) (moves : List (ℕ × ℕ)) → map turned (shifted p moves) ≡ shifted p (map turned moves)
turned_shifted p [] = refl
turned_shifted p (m ∷ moves) = ap (λ (ms : List (ℕ × ℕ)). (after_insertion p m.1, after_insertion p m.0) ∷ ms) (turned_shifted p moves)

source_shifted : (p : ℕ) (moves : List (ℕ × ℕ)) (q : ℕ) → source (shifted p moves) (after_insertion p q) ≡ after_insertion p (source moves q)
source_shifted p moves q = ap (λ ms. image ms (after_insertion p q)) (turned_shifted p moves) ∙ image_shifted p (map turned moves) q

source_shifted-keeps : (p : ℕ) (moves : List (ℕ × ℕ)) → source (shifted p moves) p ≡ p
source_shifted-keeps p moves = ap (λ ms. image ms p) (turned_shifted p moves) ∙ image_shifted-keeps p (map turned moves)

pub shifted_below : (p : ℕ) (moves : List (ℕ × ℕ)) (n : ℕ) → MovesBelow n moves → MovesBelow (n + 1) (shifted p moves)
shifted_below p moves n below = All-map (λ m. m.0 < n + 1) (λ (m : ℕ × ℕ). (after_insertion p m.0, after_insertion p m.1)) moves (λ k d lt. after_below p (get_or moves k d).0 n (below k d lt))

same_line : (l m : AxisLine) → l.slot ≡ m.slot → l.rec ≡ m.rec → l ≡ m
same_line l m s r = λ i. record { slot = s i; rec = r i }

pub insertion_and_moves : (A : Axis) (p : ℕ) (id : LineId) (moves : List (ℕ × ℕ)) → p ≤ length A.lines → MovesBelow (length A.lines) moves →
    inserted (moved A moves) p id ≡ moved (inserted A p id) (shifted p moves)
insertion_and_moves A p id moves h below =
    ap (λ (ls : List AxisLine). record A { lines = ls })
    (same_lists (insert (moved A moves).lines p (new_line id)) (moved (inserted A p id) (shifted p moves)).lines
    (few ∙ sym many) (λ k d within. at_inside (insert (moved A moves).lines p (new_line id)) k d no_line within ∙ (at k (rw few at within) ∙ at_inside (moved (inserted A p id) (shifted p moves)).lines k no_line d (let w : k < length A.lines + 1 = rw few at within in rw many w))))
  where
    h' : p ≤ length (moved A moves).lines
    h' = rw (length-moved A moves) h

    few : length (insert (moved A moves).lines p (new_line id)) ≡ length A.lines + 1
    few = length-insert (moved A moves).lines p (new_line id) h' ∙ ap (λ n. n + 1) (length-moved A moves)

    more : length (inserted A p id).lines ≡ length A.lines + 1
    more = length-insert A.lines p (new_line id) h

    many : length (moved (inserted A p id) (shifted p moves)).lines ≡ length A.lines + 1
    many = length-moved (inserted A p id) (shifted p moves) ∙ more

    below' : MovesBelow (length (inserted A p id).lines) (shifted p moves)
    below' = rw more (shifted_below p moves (length A.lines) below)

    at : (k : ℕ) → k < length A.lines + 1 → slice_index_or (insert (moved A moves).lines p (new_line id)) k no_line ≡ slice_index_or (moved (inserted A p id) (shifted p moves)).lines k no_line
    at k w = by_place (new_or_old p k (length A.lines) w h)
      where
        inside : k < length (inserted A p id).lines
        inside = rw more w

        by_place : ((k ≡ p) ⊎ ((j : ℕ) × (j < length A.lines) × (after_insertion p j ≡ k))) → slice_index_or (insert (moved A moves).lines p (new_line id)) k no_line ≡ slice_index_or (moved (inserted A p id) (shifted p moves)).lines k no_line
        by_place (inl e) =
            let new : slice_index_or (insert A.lines p (new_line id)) k no_line ≡ new_line id = ap (λ j. slice_index_or (insert A.lines p (new_line id)) j no_line) e ∙ get_or-insert_at A.lines p (new_line id) no_line h in
            let from : source (shifted p moves) k ≡ k = ap (source (shifted p moves)) e ∙ (source_shifted-keeps p moves ∙ sym e) in
            (ap (λ j. slice_index_or (insert (moved A moves).lines p (new_line id)) j no_line) e ∙ get_or-insert_at (moved A moves).lines p (new_line id) no_line h')
            ∙ sym (same_line _ (new_line id)
            (slot_moved (inserted A p id) (shifted p moves) k inside ∙ ap (λ (l : AxisLine). l.slot) new)
            (rec_moved (inserted A p id) (shifted p moves) below' k inside ∙ (ap (rec_at (inserted A p id)) from ∙ ap (λ (l : AxisLine). l.rec) new)))
        by_place (inr (j, lt, e)) =
            let from : source (shifted p moves) k ≡ after_insertion p (source moves j) = ap (source (shifted p moves)) (sym e) ∙ source_shifted p moves j in
            (ap (λ i. slice_index_or (insert (moved A moves).lines p (new_line id)) i no_line) (sym e) ∙ inserted_at (moved A moves).lines p (new_line id) no_line j h')
            ∙ same_line _ _
            (slot_moved A moves j lt ∙ sym (slot_moved (inserted A p id) (shifted p moves) k inside ∙ (ap (λ i. (slice_index_or (insert A.lines p (new_line id)) i no_line).slot) (sym e) ∙ ap (λ (l : AxisLine). l.slot) (inserted_at A.lines p (new_line id) no_line j h))))
            (rec_moved A moves below j lt ∙ sym (rec_moved (inserted A p id) (shifted p moves) below' k inside ∙ (ap (rec_at (inserted A p id)) from ∙ ap (λ (l : AxisLine). l.rec) (inserted_at A.lines p (new_line id) no_line (source moves j) h))))
