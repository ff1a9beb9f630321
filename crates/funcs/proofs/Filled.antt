-- Values with empty ones behind them.
use Rattle.std.proofs.Common.{◌≡◌, ℕ, ℤ, zero, suc, ◌+◌, ◌-◌, ◌<◌, ◌≤◌, Bool, true, false, cond, List, [], ◌∷◌, ◌++◌, length, count_by, Result, refl, sym, ap, ◌∙◌, arith, add-zero, inl, inr}
use Rattle.std.specs.Prelude.{◌⊎◌, fold, filter_map, find, replicate, slice_get, slice_index_or, Option, Some, None, option_map, MatchOption}
use Rattle.std.specs.List.{position_from}
use Rattle.std.proofs.lemmas.List.{append-nil}
use Rattle.std.proofs.lemmas.List.Elements.{filter_map-append}
use Rattle.std.proofs.lemmas.List.Sums.{sum_by-append}
use Rattle.ss_base.specs.declared.types.CalcErr.{CalcErr}
use Rattle.sheet_value.specs.declared.value.Value.{Value}
use Rattle.sheet_value.specs.declared.value.Value.TheVariants as value
use Rattle.sheet_value.specs.Tables.{column_of, filled_up}
use Rattle.funcs.specs.declared.list.Counted.{Counted}
use Rattle.funcs.specs.declared.list.Counted.TheVariants as counted
use Rattle.funcs.specs.declared.value_ref.ValueRef.{ValueRef}
use Rattle.funcs.specs.declared.value_ref.ValueRef.TheVariants as lent
use Rattle.funcs.specs.Refs.{owned}
use Rattle.funcs.specs.Steps.{all_of}
use Rattle.funcs.specs.Areas.{same, sheet_number, sheet_numbers}
use Rattle.funcs.specs.Counts.{counts}
use Rattle.funcs.specs.Tables.{begins_with}

-- ---- no numbers among them
pub numbers-filled : (vs : List Value) (n : ℕ) → sheet_numbers (filled_up vs n) ≡ sheet_numbers vs
numbers-filled vs n =
    ap (λ (rs : List (Result ℤ CalcErr)). all_of rs)
    (filter_map-append sheet_number vs (replicate (n - length vs) value.Empty)
    ∙ (ap (λ (rs : List (Result ℤ CalcErr)). filter_map sheet_number vs ++ rs) (none (n - length vs)) ∙ append-nil (filter_map sheet_number vs)))
  where
    none : (k : ℕ) → filter_map sheet_number (replicate k value.Empty) ≡ []
    none zero = refl
    none (suc k) = none k

-- ---- none of them counts
uncounted : (c : Counted) → counts c value.Empty ≡ false
uncounted counted.Numbers = refl
uncounted counted.Filled = refl
uncounted (counted.Same x) = refl

pub count-filled : (c : Counted) (vs : List Value) (n : ℕ) → count_by (λ v. counts c v) (filled_up vs n) ≡ count_by (λ v. counts c v) vs
count-filled c vs n =
    sum_by-append (λ v. cond (counts c v) 1 0) vs (replicate (n - length vs) value.Empty)
    ∙ (ap (λ (m : ℕ). count_by (λ v. counts c v) vs + m) (none (n - length vs)) ∙ add-zero (count_by (λ v. counts c v) vs))
  where
    none : (k : ℕ) → count_by (λ v. counts c v) (replicate k value.Empty) ≡ 0
    none zero = refl
    none (suc k) = (λ i. fold (λ (n : ℕ) (v : Value). n + cond (counts c v) 1 0) (0 + cond (uncounted c i) 1 0) (replicate k value.Empty)) ∙ none k

-- ---- none of them is found
pub position-filled : (x : Value) (first : ℕ) (vs : List Value) (n : ℕ) → position_from (λ v. same v x) first (filled_up vs n) ≡ position_from (λ v. same v x) first vs
position-filled x first vs n = along first vs (n - length vs)
  where
    none : (from k : ℕ) → position_from (λ v. same v x) from (replicate k value.Empty) ≡ None
    none from zero = refl
    none from (suc k) = none (from + 1) k

    along : (from : ℕ) (ws : List Value) (k : ℕ) → position_from (λ v. same v x) from (ws ++ replicate k value.Empty) ≡ position_from (λ v. same v x) from ws
    along from [] k = none from k
    along from (w ∷ ws) k = ap (λ (o : Option ℕ). cond (same w x) (Some from) o) (along (from + 1) ws k)

pub nowhere : (x : Value) (first : ℕ) (vs : List Value) → ((v : Value) → same v x ≡ false) → None ≡ position_from (λ v. same v x) first vs
nowhere x first [] h = refl
nowhere x first (v ∷ vs) h = nowhere x (first + 1) vs h ∙ sym (ap (λ (t : Bool). cond t (Some first) (position_from (λ w. same w x) (first + 1) vs)) (h v))

not_empty : (v : Value) → same v value.Empty ≡ false
not_empty value.Empty = refl
not_empty (value.Num n) = refl
not_empty (value.Text t) = refl
not_empty (value.Err e) = refl

not_fault : (d : CalcErr) (v : Value) → same v (value.Err d) ≡ false
not_fault d value.Empty = refl
not_fault d (value.Num n) = refl
not_fault d (value.Text t) = refl
not_fault d (value.Err e) = refl

pub unfound : (x : ValueRef) → ((x ≡ lent.Empty) ⊎ ((e : CalcErr) × (x ≡ lent.Err e))) → (v : Value) → same v (owned x) ≡ false
unfound x (inl e) v = rw e (not_empty v)
unfound x (inr d) v = let (fault, e) = d in rw e (not_fault fault v)

-- places from 1
pub next_place : {A : Type 0} (p : A → Bool) (first : ℕ) (xs : List A) → position_from p (first + 1) xs ≡ option_map suc (position_from p first xs)
next_place p first [] = refl
next_place p first (x ∷ xs) = by_test (p x) (next_place p (first + 1) xs)
  where
    by_test : (t : Bool) → position_from p (first + 1 + 1) xs ≡ option_map suc (position_from p (first + 1) xs) →
        cond t (Some (first + 1)) (position_from p (first + 1 + 1) xs) ≡ option_map suc (cond t (Some first) (position_from p (first + 1) xs))
    by_test true later = ap (λ (n : ℕ). Some n) (let z : first + 1 ≡ suc first = omega arith in z)
    by_test false later = later

-- ---- the first row whose first item is the same
first_item : (x : Value) (row : List Value) → begins_with x row ≡ same (slice_index_or row 0 value.Empty) x
first_item x [] = refl
first_item x (v ∷ vs) = refl

matched : {P Q : Type 0} {S R : ℕ → Type 0} (o : Option ℕ) → (P → Q) → ((k : ℕ) → S k → R k) → MatchOption o P S → MatchOption o Q R
matched None f g h = f h
matched (Some k) f g h = g k h

from_place : (x : Value) (rows : List (List Value)) (first : ℕ) (o : Option ℕ) → o ≡ position_from (λ v. same v x) first (column_of rows 0) →
    MatchOption o (find (begins_with x) rows ≡ None) (λ k. (first ≤ k) × (k < first + length rows) × (find (begins_with x) rows ≡ slice_get rows (k - first)))
from_place x [] first o e = rw e refl
from_place x (row ∷ rows) first o e = by_test (same (slice_index_or row 0 value.Empty) x) (first_item x row) e (from_place x rows (first + 1) o)
  where
    by_test : (t : Bool) → begins_with x row ≡ t → o ≡ cond t (Some first) (position_from (λ v. same v x) (first + 1) (column_of rows 0)) →
        (o ≡ position_from (λ v. same v x) (first + 1) (column_of rows 0) → MatchOption o (find (begins_with x) rows ≡ None) (λ k. (first + 1 ≤ k) × (k < first + 1 + length rows) × (find (begins_with x) rows ≡ slice_get rows (k - (first + 1))))) →
        MatchOption o (find (begins_with x) (row ∷ rows) ≡ None) (λ k. (first ≤ k) × (k < first + length (row ∷ rows)) × (find (begins_with x) (row ∷ rows) ≡ slice_get (row ∷ rows) (k - first)))
    by_test true is here later =
        rw here (
          omega arith,
          omega arith,
          ap (λ (t : Bool). cond t (Some row) (find (begins_with x) rows)) is ∙ ap (λ (k : ℕ). slice_get (row ∷ rows) k) (let z : 0 ≡ first - first = omega arith in z),
        )
    by_test false is here later =
        matched o
        (λ p. ap (λ (t : Bool). cond t (Some row) (find (begins_with x) rows)) is ∙ p)
        (λ k p. (
          omega (arith, p.0),
          omega (arith, p.1),
          ap (λ (t : Bool). cond t (Some row) (find (begins_with x) rows)) is
              ∙ (p.2 ∙ ap (λ (j : ℕ). slice_get (row ∷ rows) j) (let z : suc (k - (first + 1)) ≡ k - first = omega (arith, p.0) in z)),
        ))
        (later here)

pub row_found : (x : Value) (rows : List (List Value)) (vs : List Value) (o : Option ℕ) → column_of rows 0 ≡ filled_up vs (length rows) → o ≡ position_from (λ v. same v x) 0 vs →
    MatchOption o (find (begins_with x) rows ≡ None) (λ k. (k < length rows) × (find (begins_with x) rows ≡ slice_get rows k))
row_found x rows vs o e is =
    matched o (λ p. p) (λ k p. (omega (arith, p.1), p.2 ∙ ap (λ (j : ℕ). slice_get rows j) (let z : k - 0 ≡ k = omega arith in z)))
    (from_place x rows 0 o (is ∙ (sym (position-filled x 0 vs (length rows)) ∙ ap (λ (ws : List Value). position_from (λ v. same v x) 0 ws) (sym e))))
