-- Numbers of which no two are the same, and one more.
use Rattle.std.proofs.Common.{◌≡◌, ℕ, zero, suc, ◌+◌, ◌<◌, ◌≤◌, ◌≢◌, Bool, true, false, cond, List, [], ◌∷◌, ◌++◌, length, take, drop, get_or, All, refl, ap, sym, ◌∙◌, arith, inl, inr}
use Rattle.std.specs.Prelude.{◌⊎◌, ◌&&◌, nat_eq, map, insert, slice_index}
use Rattle.std.proofs.lemmas.Bool.{cases_lt}
use Rattle.std.proofs.lemmas.Bool.Decides.{nat_tests}
use Rattle.std.proofs.lemmas.List.{length-append, length-map, get_or-map}
use Rattle.std.proofs.lemmas.List.Elements.{All-head, All-tail}
use Rattle.std.proofs.lemmas.List.Edits.{length-insert, get_or-insert_at}
use Rattle.marked_lines.specs.Moves.{after_insertion}
use Rattle.sheet_ops.specs.LineIds.{opening_id}
use Rattle.sheet_ops.specs.Lines.{AxisLine, new_line, inserted}
use Rattle.sheet_ops.proofs.Carried.{inserted_at, new_or_old, after_below}
use Rattle.sheet_grid.specs.Numbers.{IsNumbered, lines_of, mark_of, axis_of}
use Rattle.sheet_grid.proofs.Compared.{other_test}

-- no number stands at two places
abbrev pub Apart : List ℕ → Type 0
Apart ns = (p q : ℕ) → p < length ns → q < length ns → slice_index ns p ≡ slice_index ns q → p ≡ q

pub numbered_apart : (ns ps : List ℕ) → IsNumbered ns ps → Apart ns
numbered_apart ns ps ok i j a b s = sym (ok.back i a).1 ∙ (ap (slice_index ps) s ∙ (ok.back j b).1)

-- what stands in the front of a list with one more at its end, and that one
at_front : (xs : List ℕ) (x k : ℕ) → k < length xs → slice_index (xs ++ x ∷ []) k ≡ slice_index xs k
at_front [] x k h = absurd (omega arith)
at_front (y ∷ xs) x zero h = refl
at_front (y ∷ xs) x (suc k) h = at_front xs x k (omega arith)

at_end : (xs : List ℕ) (x k : ℕ) → k ≡ length xs → slice_index (xs ++ x ∷ []) k ≡ x
at_end [] x zero h = refl
at_end [] x (suc k) h = absurd (omega arith)
at_end (y ∷ xs) x zero h = absurd (omega arith)
at_end (y ∷ xs) x (suc k) h = at_end xs x k (omega arith)

module _ (numbers places : List ℕ) (ok : IsNumbered numbers places) (p n : ℕ) (h : p ≤ length numbers) (room : length numbers < 16000) (is : n ≡ length numbers) where
  abbrev pub places_after : List ℕ
  places_after = map (after_insertion p) places ++ p ∷ []

  long : length (map (after_insertion p) places) ≡ length numbers
  long = length-map places (after_insertion p) ∙ ok.as_many

  more : length (insert numbers p n) ≡ length numbers + 1
  more = length-insert numbers p n h

  place_old : (k : ℕ) → k < length numbers → slice_index (map (after_insertion p) places ++ p ∷ []) k ≡ after_insertion p (slice_index places k)
  place_old k j = at_front (map (after_insertion p) places) p k (omega (arith, j, long)) ∙ get_or-map (after_insertion p) places k 0 0 (omega (arith, j, ok.as_many))

  place_new : slice_index (map (after_insertion p) places ++ p ∷ []) n ≡ p
  place_new = at_end (map (after_insertion p) places) p n (is ∙ sym long)

  number_new : slice_index (insert numbers p n) p ≡ n
  number_new = get_or-insert_at numbers p n 0 h

  number_old : (q : ℕ) → slice_index (insert numbers p n) (after_insertion p q) ≡ slice_index numbers q
  number_old q = inserted_at numbers p n 0 q h

  pub numbered_inserted : IsNumbered (insert numbers p n) (map (after_insertion p) places ++ p ∷ [])
  numbered_inserted = record {
    few = omega (arith, more, room);
    as_many = length-append (map (after_insertion p) places) (p ∷ []) ∙ (ap (λ m. m + 1) long ∙ sym more);
    back = λ r j. by_place r (new_or_old p r (length numbers) (rw more at j) h);
    forth = λ k j. by_number k (cases_lt k (length numbers)) (rw more at j);
  }
    where
      by_place : (r : ℕ) → ((r ≡ p) ⊎ ((q : ℕ) × (q < length numbers) × (after_insertion p q ≡ r))) →
          (slice_index (insert numbers p n) r < length (insert numbers p n)) × (slice_index (map (after_insertion p) places ++ p ∷ []) (slice_index (insert numbers p n) r) ≡ r)
      by_place r (inl e) =
          let at : slice_index (insert numbers p n) r ≡ n = ap (slice_index (insert numbers p n)) e ∙ number_new in
          (omega (arith, at, more, is), ap (slice_index (map (after_insertion p) places ++ p ∷ [])) at ∙ (place_new ∙ sym e))
      by_place r (inr (q, lt, e)) =
          let at : slice_index (insert numbers p n) r ≡ slice_index numbers q = ap (slice_index (insert numbers p n)) (sym e) ∙ number_old q in
          let old = ok.back q lt in
          (omega (arith, at, more, old.0), ap (slice_index (map (after_insertion p) places ++ p ∷ [])) at ∙ (place_old (slice_index numbers q) old.0 ∙ (ap (after_insertion p) old.1 ∙ e)))

      by_number : (k : ℕ) → ((k < length numbers) ⊎ (length numbers ≤ k)) → k < length numbers + 1 →
          (slice_index (map (after_insertion p) places ++ p ∷ []) k < length (insert numbers p n)) × (slice_index (insert numbers p n) (slice_index (map (after_insertion p) places ++ p ∷ []) k) ≡ k)
      by_number k (inl lt) j =
          let at = place_old k lt in
          let old = ok.forth k lt in
          let below = after_below p (slice_index places k) (length numbers) old.0 in
          (omega (arith, at, below, more), ap (slice_index (insert numbers p n)) at ∙ (number_old (slice_index places k) ∙ old.1))
      by_number k (inr ge) j =
          let e : k ≡ n = omega arith in
          let at : slice_index (map (after_insertion p) places ++ p ∷ []) k ≡ p = ap (slice_index (map (after_insertion p) places ++ p ∷ [])) e ∙ place_new in
          (omega (arith, at, h, more), ap (slice_index (insert numbers p n)) at ∙ (number_new ∙ sym e))

-- ---- the lines by identity with one more
lines_inserted : (slots recs : List ℕ) (p n : ℕ) → length recs ≡ length slots → p ≤ length slots → lines_of (insert slots p n) (insert recs p n) ≡ insert (lines_of slots recs) p (new_line (opening_id n))
lines_inserted slots recs zero n e h = refl
lines_inserted [] recs (suc p) n e h = absurd (omega arith)
lines_inserted (s ∷ slots) [] (suc p) n e h = absurd (omega arith)
lines_inserted (s ∷ slots) (r ∷ recs) (suc p) n e h = ap (λ (ls : List AxisLine). record { slot = opening_id s; rec = opening_id r } ∷ ls) (lines_inserted slots recs p n (omega arith) (omega arith))

pub mark_none : (recs : List ℕ) (marks : List Bool) (n : ℕ) → All (λ r. r ≢ n) recs → mark_of recs marks n ≡ false
mark_none [] marks n none = refl
mark_none (r ∷ recs) [] n none = refl
mark_none (r ∷ recs) (m ∷ marks) n none = ap (λ t. cond t m (mark_of recs marks n)) (other_test r n (All-head (λ r. r ≢ n) r recs none)) ∙ mark_none recs marks n (All-tail (λ r. r ≢ n) r recs none)

mark_inserted : (recs : List ℕ) (marks : List Bool) (p n k : ℕ) → length marks ≡ length recs → p ≤ length recs → All (λ r. r ≢ n) recs → mark_of (insert recs p n) (insert marks p false) k ≡ mark_of recs marks k
mark_inserted recs marks zero n k e h none = by_test (nat_eq n k) refl
  where
    same : (m j : ℕ) → nat_eq m j ≡ true → m ≡ j
    same m j t = grind (arith, nat_tests)

    by_test : (t : Bool) → nat_eq n k ≡ t → cond t false (mark_of recs marks k) ≡ mark_of recs marks k
    by_test false t = refl
    by_test true t = sym (mark_none recs marks n none) ∙ ap (mark_of recs marks) (same n k t)
mark_inserted [] marks (suc p) n k e h none = absurd (omega arith)
mark_inserted (r ∷ recs) [] (suc p) n k e h none = absurd (omega arith)
mark_inserted (r ∷ recs) (m ∷ marks) (suc p) n k e h none = ap (cond (nat_eq r k) m) (mark_inserted recs marks p n k (omega arith) (omega arith) (All-tail (λ r. r ≢ n) r recs none))

-- A new number at a position, in the slots and in the records, with no mark: the same lines with a new one there.
pub axis_inserted : (slots recs : List ℕ) (marks : List Bool) (p n : ℕ) → length recs ≡ length slots → length marks ≡ length recs → p ≤ length slots → All (λ r. r ≢ n) recs →
    axis_of (insert slots p n) (insert recs p n) (insert marks p false) ≡ inserted (axis_of slots recs marks) p (opening_id n)
axis_inserted slots recs marks p n e f h none = λ i. record {
  lines = lines_inserted slots recs p n e h i;
  dead = λ id. nat_eq id.site 0 && mark_inserted recs marks p n id.number f (omega arith) none i;
}

-- ---- an in-place loop
pub rest_at : (f : ℕ → ℕ) (xs : List ℕ) (i d : ℕ) → i < length xs → get_or (map f (take i xs) ++ drop i xs) i d ≡ get_or xs i d
rest_at f [] i d h = absurd (omega arith)
rest_at f (x ∷ xs) zero d h = refl
rest_at f (x ∷ xs) (suc i) d h = rest_at f xs i d (omega arith)

pub long_rest : (f : ℕ → ℕ) (xs : List ℕ) (i : ℕ) → length (map f (take i xs) ++ drop i xs) ≡ length xs
long_rest f [] zero = refl
long_rest f [] (suc i) = refl
long_rest f (x ∷ xs) zero = refl
long_rest f (x ∷ xs) (suc i) = ap suc (long_rest f xs i)
