use Rattle.std.proofs.Common.{◌∙◌, ap, List, Bool}
use Rattle.std.specs.Prelude.{slice_get}
use Rattle.marked_lines.specs.Marks.{visible_places}
use Rattle.sheet_grid.proofs.PositionReads.{col_marks}
use Rattle.sheet_grid.proofs.Sheet.col_at.Goals as goal

pub returns : goal.returns
returns c = c.place_of.ensures.value ∙ ap (λ (ms : List Bool). slice_get (visible_places ms) c.args.visible) (col_marks c.self.inside.rows c.self.inside.cols c.self.inside.cells.items c.self.invariant c.args.self.now c.self.view_is)
