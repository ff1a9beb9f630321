use Rattle.std.proofs.Common.{◌∙◌, ap, List, Bool}
use Rattle.marked_lines.specs.Marks.{visible_of}
use Rattle.sheet_grid.proofs.PositionReads.{col_marks}
use Rattle.sheet_grid.proofs.Sheet.col_seen.Goals as goal

pub returns-clause-index : goal.returns-clause-index
returns-clause-index c = c.visible_of.ensures.value ∙ ap (λ (ms : List Bool). visible_of ms c.args.col) (col_marks c.self.inside.rows c.self.inside.cols c.self.inside.cells.items c.self.invariant c.args.self.now c.self.view_is)
