-- What an edit denotes on a sheet is the same however its lines are called.
use Rattle.std.proofs.Common.{◌≡◌, ◌≢◌, ℕ, ◌<◌, ◌≤◌, Bool, true, false, cond, List, length, refl, ap, sym, ◌∙◌, arith, Option, Some, None, Ok, Err}
use Rattle.std.specs.Prelude.{nat_eq, nat_lt, slice_get, Result}
use Rattle.std.proofs.lemmas.Bool.Decides.{nat_tests}
use Rattle.marked_lines.specs.Marks.{visible_count, visible_places}
use Rattle.marked_lines.proofs.Positions.{length-places_from}
use Rattle.sheet_ops.specs.declared.operation.Intent.{Intent}
use Rattle.sheet_ops.specs.declared.edit.EditErr.{EditErr}
use Rattle.sheet_ops.specs.declared.edit.EditErr.TheVariants as fault
use Rattle.sheet_value.specs.declared.value.Value.{Value}
use Rattle.sheet_ops.specs.Lines.{marks}
use Rattle.sheet_ops.specs.Identity.{IdSheet}
use Rattle.sheet_ops.specs.Placed.{PlacedSheet, placed}
use Rattle.sheet_ops.proofs.Visible.{visible_below}
use Rattle.author_ops.specs.Edits.{insertion_place, sort_on, sort_by}

-- where the marks alone decide
pub by_marks : (P : PlacedSheet) (f : List Bool → List Bool → Result Intent EditErr) (r : Result Intent EditErr) → f P.rows P.cols ≡ r → (X : IdSheet) → placed X ≡ P → f (marks X.rows) (marks X.cols) ≡ r
by_marks P f r h X e = ap (λ (Q : PlacedSheet). f Q.rows Q.cols) e ∙ h

-- an insertion is inside
pub insertion_inside : (ms : List Bool) (v p : ℕ) → Some p ≡ insertion_place ms v → p ≤ length ms
insertion_inside ms v p e = by_end (nat_eq v (visible_count ms)) e
  where
    by_end : (t : Bool) → Some p ≡ cond t (Some (length ms)) (slice_get (visible_places ms) v) → p ≤ length ms
    by_end true e = let same : p ≡ length ms = cc in omega arith
    by_end false e = let within = visible_below ms v p (sym e) in omega (arith, within)

pub is_below : (m n : ℕ) → m < n → nat_lt m n ≡ true
is_below m n h = grind (arith, nat_tests)

pub is_not_below : (m n : ℕ) → n ≤ m → nat_lt m n ≡ false
is_not_below m n h = grind (arith, nat_tests)

-- visible lines counted
pub count_seen : (ms : List Bool) → length (visible_places ms) ≡ visible_count ms
count_seen ms = length-places_from 0 ms

pub at_end : (ms : List Bool) (v p : ℕ) → v ≡ visible_count ms → p ≡ length ms → Some p ≡ insertion_place ms v
at_end ms v p e f = (λ i. Some (f i)) ∙ sym (ap (λ (t : Bool). cond t (Some (length ms)) (slice_get (visible_places ms) v)) (same v (visible_count ms) e))
  where
    same : (m n : ℕ) → m ≡ n → nat_eq m n ≡ true
    same m n h = grind (arith, nat_tests)

pub before_end : (ms : List Bool) (v : ℕ) (o : Option ℕ) → v ≢ visible_count ms → o ≡ slice_get (visible_places ms) v → o ≡ insertion_place ms v
before_end ms v o e f = f ∙ sym (ap (λ (t : Bool). cond t (Some (length ms)) (slice_get (visible_places ms) v)) (other v (visible_count ms) e))
  where
    other : (m n : ℕ) → m ≢ n → nat_eq m n ≡ false
    other m n h = grind (arith, nat_tests)

-- the column of a sort's keys
module _ (rows cols : List Bool) (first last col : ℕ) (keys : List Value) (down : Bool) where
  pub column_outside : visible_count cols ≤ col → sort_by rows cols first last col keys down ≡ Err fault.OutOfSheet
  column_outside h = ap (λ (t : Bool). cond t (sort_on rows first last keys down) (Err fault.OutOfSheet)) (is_not_below col (visible_count cols) h)

  pub column_seen : col < visible_count cols → sort_by rows cols first last col keys down ≡ sort_on rows first last keys down
  column_seen h = ap (λ (t : Bool). cond t (sort_on rows first last keys down) (Err fault.OutOfSheet)) (is_below col (visible_count cols) h)
