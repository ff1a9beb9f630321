use Rattle.std.proofs.Common.{◌≡◌, ℕ, ◌+◌, ◌-◌, [], ◌∷◌, ◌++◌, min, ap, sym, ◌∙◌, arith}
use Rattle.std.specs.Prelude.{map}
use Rattle.std.specs.List.{range_with_len}
use Rattle.std.proofs.lemmas.List.FromFn.{map-range_with_len_more}
use Rattle.sheet_value.specs.declared.value.Value.{Value}
use Rattle.sheet_value.specs.Tables.{value_at}
use Rattle.author_ops.specs.Copies.{line_count}
use Rattle.sort_keys.proofs.edit_keys.column_values.Goals as goal

pub loop-row-init : goal.loop-row-init
loop-row-init c =
    let none : 0 ≡ min c.args.first (c.args.last + 1) - c.args.first = omega arith in
    c.new-found.ensures.items ∙ ap (λ n. map (λ (row : ℕ). value_at c.args.grid.now row c.args.col) (range_with_len c.args.first n)) none

pub loop-row-preserved : goal.loop-row-preserved
loop-row-preserved c =
    let at : ℕ → Value = λ row. value_at c.args.grid.now row c.args.col in
    let end = c.args.last + 1 in
    let low = c.loop-row.auto.row in
    let high = c.loop-row-test.true in
    let before : min c.loop-row.row end - c.args.first ≡ c.loop-row.row - c.args.first = omega (arith, high) in
    let here : c.args.first + (c.loop-row.row - c.args.first) ≡ c.loop-row.row = omega (arith, low) in
    let count : (c.loop-row.row - c.args.first) + 1 ≡ min (c.loop-row.row + 1) end - c.args.first = omega (arith, low, high) in
    c.in_ok-push.ensures.items
    ∙ ((λ i. (c.loop-row.invariant ∙ ap (λ n. map at (range_with_len c.args.first n)) before) i ++ c.in_ok-value.ensures i ∷ [])
    ∙ (sym (map-range_with_len_more at c.args.first (c.loop-row.row - c.args.first) c.loop-row.row here) ∙ ap (λ n. map at (range_with_len c.args.first n)) count))

pub returns : goal.returns
returns c =
    let past = c.loop-row-test.false in
    let count : min c.loop-row.row (c.args.last + 1) - c.args.first ≡ line_count c.args.first c.args.last = omega (arith, past) in
    c.loop-row.invariant ∙ ap (λ n. map (λ (row : ℕ). value_at c.args.grid.now row c.args.col) (range_with_len c.args.first n)) count
