use Rattle.std.proofs.Common.{◌∙◌, ap, List, Bool}
use Rattle.marked_lines.specs.Marks.{span_of}
use Rattle.sheet_grid.proofs.PositionReads.{row_marks}
use Rattle.sheet_grid.proofs.Sheet.rows_seen.Goals as goal

pub returns-clause-span : goal.returns-clause-span
returns-clause-span c = c.span_of.ensures.value ∙ ap (λ (ms : List Bool). span_of ms c.args.first c.args.last) (row_marks c.self.inside.rows c.self.inside.cols c.self.inside.cells.items c.self.invariant c.args.self.now c.self.view_is)
