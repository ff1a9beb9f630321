use Rattle.std.proofs.Common.{◌≡◌, ℕ, ◌+◌, ◌-◌, List, [], ◌∷◌, ◌++◌, min, length, ap, sym, ◌∙◌, arith}
use Rattle.std.specs.Prelude.{map}
use Rattle.std.specs.List.{range_with_len}
use Rattle.std.proofs.lemmas.List.{length-append}
use Rattle.std.proofs.lemmas.List.FromFn.{map-range_with_len_more}
use Rattle.sheet_value.specs.declared.value.Value.{Value}
use Rattle.sheet_value.specs.Tables.{value_at}
use Rattle.full_calc.specs.Values.{value_table}
use Rattle.sort_keys.proofs.edit_keys.constant_values.Goals as goal

pub loop-row-preserved : goal.loop-row-preserved
loop-row-preserved c =
    let first = c.args.first in
    let end = c.args.last + 1 in
    let low = c.loop-row.auto.row in
    let high = c.loop-row-test.true in
    let before : min c.loop-row.row end - first ≡ c.loop-row.row - first = omega (arith, high) in
    let here : first + (c.loop-row.row - first) ≡ c.loop-row.row = omega (arith, low) in
    let count : (c.loop-row.row - first) + 1 ≡ min (c.loop-row.row + 1) end - first = omega (arith, low, high) in
    record {
      many =
          let longer = ap (λ (vs : List Value). length vs) c.in_ok-push-in-Some.ensures.items ∙ length-append c.loop-row.found.items (c.in-Some.value ∷ []) in
          let old = c.loop-row.invariant.many in
          omega (arith, longer, old, before, count);
      values = λ X formed same.
          let at : ℕ → Value = λ row. value_at (value_table X) row c.args.col in
          let old = c.loop-row.invariant.values X formed same ∙ ap (λ n. map at (range_with_len first n)) before in
          let value : c.in-Some.value ≡ at c.loop-row.row = (rw c.in-Some.is at c.in_ok-value.ensures.value) X formed same in
          c.in_ok-push-in-Some.ensures.items
          ∙ ((λ i. old i ++ value i ∷ [])
          ∙ (sym (map-range_with_len_more at first (c.loop-row.row - first) c.loop-row.row here) ∙ ap (λ n. map at (range_with_len first n)) count));
    }
