use Rattle.std.proofs.Common.{◌≡◌, ℕ, ◌++◌, [], ◌∙◌}
use Rattle.std.specs.List.{range_with_len}
use Rattle.sheet_value.specs.Tables.{kept_at, value_at}
use Rattle.recalc_loop.specs.Changes.{cell_changes, column_changes}
use Rattle.recalc_loop.proofs.Ranges.{flat_map_range_more, flat_map_same}
use Rattle.recalc_loop.proofs.changes.changes_between.Goals as goal

pub loop-col-preserved : goal.loop-col-preserved
loop-col-preserved c =
    let rows = c.max-rows.result in
    let col = c.loop-col.col in
    let old = λ (row : ℕ). value_at c.args.old.now row col in
    let new = λ (row : ℕ). value_at c.args.new.now row col in
    let before = kept_at c.column.result.now in
    let after = kept_at c.column-in-loop-col.result.now in
    let here : column_changes rows col before after ≡ column_changes rows col old new =
    flat_map_same (λ row. cell_changes row col (before row) (after row)) (λ row. cell_changes row col (old row) (new row)) (λ row i. cell_changes row col (c.column.ensures row i) (c.column-in-loop-col.ensures row i)) (range_with_len 0 rows) in
    c.in_ok-add_column.ensures
    ∙ (λ i. c.loop-col.invariant i ++ here i)
    ∙ flat_map_range_more (λ n. column_changes rows n (λ row. value_at c.args.old.now row n) (λ row. value_at c.args.new.now row n)) [] col
