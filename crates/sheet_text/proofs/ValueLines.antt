-- The lines of values, one after another.
use Rattle.std.proofs.Common.{◌≡◌, ℕ, zero, suc, ◌+◌, ◌-◌, min, ◌≤◌, ◌<◌, List, [], ◌∷◌, ◌++◌, ap, sym, ◌∙◌, arith, Some, None}
use Rattle.std.specs.List.{range_with_len, flat_map}
use Rattle.std.proofs.lemmas.List.{append-nil, flat_map_more}
use Rattle.sheet_value.specs.declared.value.Value.{Value}
use Rattle.sheet_value.specs.declared.value.Value.TheVariants as value
use Rattle.sheet_value.specs.Tables.{filled}
use Rattle.sheet_text.specs.Texts.{cell_line}
use Rattle.sheet_text.specs.Values.{value_text}

-- one number more at the end
range_more : (first count next : ℕ) → first + count ≡ next → range_with_len first (suc count) ≡ range_with_len first count ++ next ∷ []
range_more first zero next e = let same : first ≡ next = omega (arith, e) in ap (λ n. n ∷ []) same
range_more first (suc count) next e = ap (λ (ns : List ℕ). first ∷ ns) (range_more (first + 1) count next (omega (arith, e)))

-- what was appended for the numbers from the first one to before another, none of them past the end
module _ (text : ℕ → List ℕ) (first end at : ℕ) (start : List ℕ) where
  pub none_yet : (out : List ℕ) → at ≡ first → out ≡ start → out ≡ start ++ flat_map text (range_with_len first (min at end - first))
  none_yet out e is = let z : 0 ≡ min at end - first = omega (arith, e) in is ∙ (sym (append-nil start) ∙ ap (λ n. start ++ flat_map text (range_with_len first n)) z)

  pub one_more : (out after : List ℕ) → first ≤ at → at < end → out ≡ start ++ flat_map text (range_with_len first (min at end - first)) → after ≡ out ++ text at →
      after ≡ start ++ flat_map text (range_with_len first (min (at + 1) end - first))
  one_more out after low high is next =
      let before : min at end - first ≡ at - first = omega (arith, low, high) in
      let count : suc (at - first) ≡ min (at + 1) end - first = omega (arith, low, high) in
      next
      ∙ (ap (λ (xs : List ℕ). xs ++ text at) (is ∙ ap (λ n. start ++ flat_map text (range_with_len first n)) before)
      ∙ (flat_map_more text start (range_with_len first (at - first)) at
      ∙ (ap (λ (ns : List ℕ). start ++ flat_map text ns) (sym (range_more first (at - first) at (omega (arith, low))))
      ∙ ap (λ n. start ++ flat_map text (range_with_len first n)) count)))

  pub all_done : (out : List ℕ) → end ≤ at → out ≡ start ++ flat_map text (range_with_len first (min at end - first)) → out ≡ start ++ flat_map text (range_with_len first (end - first))
  all_done out past is = let e : min at end ≡ end = omega (arith, past) in is ∙ ap (λ n. start ++ flat_map text (range_with_len first (n - first))) e

-- ---- one value
-- an empty value has no line
pub no_line : (row col : ℕ) (v : Value) (out : List ℕ) → None ≡ filled v → out ≡ out ++ cell_line row col (value_text v)
no_line row col value.Empty out e = sym (append-nil out)
no_line row col (value.Num z) out e = absurd (cc)
no_line row col (value.Text t) out e = absurd (cc)
no_line row col (value.Err f) out e = absurd (cc)

pub filled_is : (v w : Value) → Some w ≡ filled v → w ≡ v
filled_is value.Empty w e = absurd (cc)
filled_is (value.Num z) w e = cc
filled_is (value.Text t) w e = cc
filled_is (value.Err f) w e = cc
