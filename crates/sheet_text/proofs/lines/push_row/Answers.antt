use Rattle.std.proofs.Common.{◌<◌, ◌∙◌, ◌++◌, ℕ, List, ap, sym, subst, refl, length, get_or, All}
use Rattle.sheet_grid.specs.Values.{placed_in}
use Rattle.sheet_text.specs.Rows.{lines_at}
use Rattle.sheet_text.proofs.RowLines.{filled_lines, filled_inside, told_more, told_all}
use Rattle.sheet_text.proofs.lines.push_row.Goals as goal

pub push_if_seen-requires-clause-col : goal.push_if_seen-requires-clause-col
push_if_seen-requires-clause-col c =
    let P = placed_in c.args.sheet.now in
    subst (λ (cols : List ℕ). All (λ col. col < length P.cols) cols) (sym (c.deref-col-items.ensures.value ∙ c.in_ok-filled.ensures)) (filled_inside P c.args.visible c.args.row) c.loop-col.col-index 0 c.loop-col-test.true

pub loop-col-preserved : goal.loop-col-preserved
loop-col-preserved c =
    let P = placed_in c.args.sheet.now in
    let cols = c.deref-col-items.result.now in
    told_more P c.args.visible c.args.row (c.args.out.now.items ++ lines_at P c.args.visible c.args.row cols) c.loop-col.out.items c.push_if_seen.new.out.items cols c.loop-col.col-index (get_or cols c.loop-col.col-index 0)
    c.loop-col-test.true refl c.in_ok-push_if_seen.ensures c.loop-col.invariant

pub returns : goal.returns
returns c =
    let P = placed_in c.args.sheet.now in
    let cols = c.deref-col-items.result.now in
    told_all P c.args.visible c.args.row (c.args.out.now.items ++ lines_at P c.args.visible c.args.row cols) c.loop-col.out.items cols c.loop-col.col-index c.loop-col-test.false c.loop-col.invariant
    ∙ ap (λ (lines : List ℕ). c.args.out.now.items ++ lines)
    (ap (lines_at P c.args.visible c.args.row) (c.deref-col-items.ensures.value ∙ c.in_ok-filled.ensures) ∙ filled_lines P c.args.visible c.args.row)
