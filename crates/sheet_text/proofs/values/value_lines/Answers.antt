use Rattle.std.proofs.Common.{ℕ, List, [], ◌∷◌, ◌++◌, ◌-◌, refl, ap, ◌∙◌, append_assoc}
use Rattle.std.specs.List.{range_with_len, flat_map}
use Rattle.sheet_text.specs.Values.{lines_in_row, values_from}
use Rattle.sheet_text.proofs.ValueLines.{none_yet, one_more, all_done}
use Rattle.sheet_text.proofs.values.value_lines.Goals as goal

pub loop-row-init : goal.loop-row-init
loop-row-init c =
    none_yet (lines_in_row (values_from c.args.values.now.top c.args.values.now.left c.args.values.now.grid.now) (range_with_len c.args.cols.start (c.args.cols.end - c.args.cols.start))) c.args.rows.start c.args.rows.end c.args.rows.start (c.args.head.now ++ 10 ∷ []) c.push.new.self.items refl
    (c.in_ok-push.ensures.items ∙ ap (λ (out : List ℕ). out ++ (10 ∷ [])) (c.in_ok-out.ensures.items ∙ c.bytes.ensures))

pub loop-row-preserved : goal.loop-row-preserved
loop-row-preserved c =
    one_more (lines_in_row (values_from c.args.values.now.top c.args.values.now.left c.args.values.now.grid.now) (range_with_len c.args.cols.start (c.args.cols.end - c.args.cols.start))) c.args.rows.start c.args.rows.end c.loop-row.row (c.args.head.now ++ 10 ∷ []) c.loop-row.out.items c.push_values.new.out.items
    c.loop-row.auto.row c.loop-row-test.true c.loop-row.invariant c.in_ok-push_values.ensures

pub returns : goal.returns
returns c =
    let text = lines_in_row (values_from c.args.values.now.top c.args.values.now.left c.args.values.now.grid.now) (range_with_len c.args.cols.start (c.args.cols.end - c.args.cols.start)) in
    c.from_vec.ensures
    ∙ (all_done text c.args.rows.start c.args.rows.end c.loop-row.row (c.args.head.now ++ 10 ∷ []) c.loop-row.out.items c.loop-row-test.false c.loop-row.invariant
    ∙ append_assoc c.args.head.now (10 ∷ []) (flat_map text (range_with_len c.args.rows.start (c.args.rows.end - c.args.rows.start))))
