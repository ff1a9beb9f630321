use Rattle.std.proofs.Common.{◌≡◌, ◌∙◌, ℕ, List, [], ◌∷◌, ◌++◌, length, ap, sym, arith, append_assoc}
use Rattle.ss_base.specs.declared.types.Size.{Size}
use Rattle.marked_lines.specs.Marks.{visible_places}
use Rattle.sheet_grid.specs.Values.{placed_in}
use Rattle.sheet_ops.proofs.Visible.{visible_below}
use Rattle.sheet_text.specs.Shown.{shown_placed}
use Rattle.sheet_text.specs.Texts.{cell_lines, sheet_text}
use Rattle.sheet_text.proofs.RowLines.{row_texts, rows_more, rows_all}
use Rattle.sheet_text.proofs.lines.sheet_lines.Goals as goal

pub loop-visible-init : goal.loop-visible-init
loop-visible-init c =
    ap (λ (out : List ℕ). out ++ cell_lines (shown_placed (placed_in c.args.sheet.now))) (c.in_ok-push.ensures.items ∙ ap (λ (out : List ℕ). out ++ (10 ∷ [])) (c.in_ok-out.ensures.items ∙ c.bytes.ensures))
    ∙ append_assoc c.args.head.now (10 ∷ []) (cell_lines (shown_placed (placed_in c.args.sheet.now)))

pub push_row-requires-clause-row : goal.push_row-requires-clause-row
push_row-requires-clause-row c = visible_below (placed_in c.args.sheet.now).rows c.loop-visible.visible c.in-Some.row (sym c.in-Some.ensures)

pub loop-visible-preserved : goal.loop-visible-preserved
loop-visible-preserved c =
    rows_more (placed_in c.args.sheet.now) (sheet_text c.args.head.now (shown_placed (placed_in c.args.sheet.now))) c.loop-visible.out.items c.push_row.new.out.items c.loop-visible.visible c.in-Some.row
    (sym c.in-Some.ensures) c.in_ok-push_row-in-Some.ensures c.loop-visible.invariant

pub returns : goal.returns
returns c =
    let count : c.visible-seen.result.rows ≡ length (visible_places (placed_in c.args.sheet.now).rows) = ap (λ (s : Size). s.rows) c.visible-seen.ensures.size in
    c.from_vec.ensures
    ∙ rows_all (row_texts (placed_in c.args.sheet.now)) (visible_places (placed_in c.args.sheet.now).rows) (sheet_text c.args.head.now (shown_placed (placed_in c.args.sheet.now))) c.loop-visible.out.items c.loop-visible.visible
    (omega (arith, count)) c.loop-visible.invariant
