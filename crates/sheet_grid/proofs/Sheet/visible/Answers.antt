use Rattle.std.proofs.Common.{◌∙◌, ap, List, Bool, length}
use Rattle.marked_lines.specs.Marks.{visible_places}
use Rattle.sheet_grid.proofs.PositionReads.{row_marks, col_marks}
use Rattle.sheet_grid.proofs.Sheet.visible.Goals as goal

pub returns-clause-size : goal.returns-clause-size
returns-clause-size c = λ i. record {
  rows = (c.visible.ensures.value ∙ ap (λ (ms : List Bool). length (visible_places ms)) (row_marks c.self.inside.rows c.self.inside.cols c.self.inside.cells.items c.self.invariant c.args.self.now c.self.view_is)) i;
  cols = (c.visible-2.ensures.value ∙ ap (λ (ms : List Bool). length (visible_places ms)) (col_marks c.self.inside.rows c.self.inside.cols c.self.inside.cells.items c.self.invariant c.args.self.now c.self.view_is)) i;
}
