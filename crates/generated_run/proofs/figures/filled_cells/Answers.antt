use Rattle.std.proofs.Common.{◌≡◌, ◌<◌, ◌≤◌, rules, sym, subst, length}
use Rattle.ss_base.specs.declared.types.Size.{Size}
use Rattle.marked_lines.specs.Marks.{visible_places}
use Rattle.sheet_grid.specs.Cells.{filled_places}
use Rattle.sheet_grid.specs.Values.{placed_in}
use Rattle.sheet_ops.proofs.Visible.{visible_below}
use Rattle.generated_run.proofs.HowMany.{not_past, filled_more}
use Rattle.generated_run.proofs.figures.filled_cells.Goals as goal

pub filled-requires : goal.filled-requires
filled-requires c = visible_below (placed_in c.args.sheet.now).rows c.loop-visible.visible c.in-Some.row (sym c.in-Some.ensures)

pub unreachable-requires : goal.unreachable-requires
unreachable-requires c =
    not_past (visible_places (placed_in c.args.sheet.now).rows) c.loop-visible.visible
    (subst (λ (s : Size). c.loop-visible.visible < s.rows) c.visible-visible-end.ensures.size c.loop-visible-test.true) c.in-None.ensures

pub loop-visible-preserved : goal.loop-visible-preserved
loop-visible-preserved c =
    let few : length (visible_places (placed_in c.args.sheet.now).cols) ≤ 16000 = subst (λ (s : Size). s.cols ≤ 16000) c.visible-visible-end.ensures.size c.visible-visible-end.ensures.cols in
    let many : c.len.result ≡ length (filled_places (placed_in c.args.sheet.now) c.in-Some.row) = search (rules, c.len.ensures, c.in_ok-filled-in-Some.ensures) in
    filled_more (placed_in c.args.sheet.now) c.loop-visible.visible c.in-Some.row c.loop-visible.cells c.len.result c.in-Some.ensures few
    many c.loop-visible.invariant
