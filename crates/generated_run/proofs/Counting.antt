-- Values counted one after another.
use Rattle.std.proofs.Common.{◌≡◌, ℕ, suc, ◌+◌, ◌≤◌, Bool, true, false, cond, List, [], ◌∷◌, refl, ap, ◌∙◌, arith, Some, None}
use Rattle.std.specs.Prelude.{◌+ℤ◌, fold, map}
use Rattle.std.specs.List.{range_with_len, flat_map}
use Rattle.std.proofs.Math.Nat.{zero-add}
use Rattle.std.proofs.lemmas.List.FromFn.{map-range_with_len_more}
use Rattle.std.proofs.lemmas.List.Sums.{fold-append}
use mir.Val.{bool_byte}
use Rattle.std.proofs.lemmas.Int.{ints}
use Rattle.std.proofs.Math.IntN.{+ℤ_idr}
use Rattle.sheet_value.specs.declared.value.Value.{Value}
use Rattle.sheet_value.specs.declared.value.Value.TheVariants as value
use Rattle.sheet_value.specs.Tables.{Table, value_at, filled}
use Rattle.generated_run.specs.declared.tally.Tally.{Tally}
use Rattle.generated_run.specs.Tallies.{is_number_value, is_text_value, is_error_value, is_circle_value, addend, row_values, value_tally, tallied, empty_tally, IsTallyWithin}
use Rattle.generated_run.proofs.Ranges.{flat_map_more}

-- an empty value counts for nothing
pub with_empty : (t : Tally) → tallied t value.Empty ≡ t
with_empty t = λ i. record { numbers = none t.numbers i; texts = none t.texts i; errors = none t.errors i; circular = none t.circular i; total = +ℤ_idr t.total i }
  where
    none : (n : ℕ) → n + 0 ≡ n
    none n = omega arith

-- what is there is the value
pub there : (v u : Value) → Some u ≡ filled v → u ≡ v
there value.Empty u e = absurd (cc)
there (value.Num n) u e = cc
there (value.Text t) u e = cc
there (value.Err f) u e = cc

pub empty : (v : Value) → None ≡ filled v → v ≡ value.Empty
empty value.Empty e = refl
empty (value.Num n) e = absurd (cc)
empty (value.Text t) e = absurd (cc)
empty (value.Err f) e = absurd (cc)

pub within_more : (m n : ℕ) (t : Tally) → m ≤ n → IsTallyWithin m t → IsTallyWithin n t
within_more m n t h w = record {
  numbers = omega arith;
  texts = omega arith;
  errors = omega arith;
  circular = omega arith;
  least = omega (arith, ints);
  greatest = omega (arith, ints);
}

-- one value more of a row, and one row more
pub fold_more : (T : Table) (start : Tally) (row col : ℕ) →
    fold tallied start (map (value_at T row) (range_with_len 0 (col + 1))) ≡ tallied (fold tallied start (map (value_at T row) (range_with_len 0 col))) (value_at T row col)
fold_more T start row col =
    ap (λ (vs : List Value). fold tallied start vs) (map-range_with_len_more (value_at T row) 0 col col (zero-add col))
    ∙ fold-append tallied start (map (value_at T row) (range_with_len 0 col)) (value_at T row col ∷ [])

pub rows_more : (T : Table) (row : ℕ) →
    fold tallied empty_tally (flat_map (row_values T) (range_with_len 0 (row + 1))) ≡ fold tallied (fold tallied empty_tally (flat_map (row_values T) (range_with_len 0 row))) (row_values T row)
rows_more T row =
    let next : row + 1 ≡ suc row = omega arith in
    ap (λ (n : ℕ). fold tallied empty_tally (flat_map (row_values T) (range_with_len 0 n))) next
    ∙ (ap (λ (vs : List Value). fold tallied empty_tally vs) (flat_map_more (row_values T) row)
    ∙ fold-append tallied empty_tally (flat_map (row_values T) (range_with_len 0 row)) (row_values T row))

pub byte_small : (b : Bool) → bool_byte b ≤ 1
byte_small true = omega arith
byte_small false = omega arith

-- the counts of a list are those that counting its values one after another gives
counted_from : (t : Tally) (vs : List Value) → fold tallied t vs ≡ record {
  numbers = fold (λ a v. a + cond (is_number_value v) 1 0) t.numbers vs;
  texts = fold (λ a v. a + cond (is_text_value v) 1 0) t.texts vs;
  errors = fold (λ a v. a + cond (is_error_value v) 1 0) t.errors vs;
  circular = fold (λ a v. a + cond (is_circle_value v) 1 0) t.circular vs;
  total = fold (λ a v. a +ℤ addend v) t.total vs;
}
counted_from t [] = refl
counted_from t (v ∷ vs) = counted_from (tallied t v) vs

pub counted : (vs : List Value) → fold tallied empty_tally vs ≡ value_tally vs
counted vs = counted_from empty_tally vs
