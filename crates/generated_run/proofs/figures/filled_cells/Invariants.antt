use Rattle.std.proofs.Common.{◌≡◌, ◌*◌, ◌≤◌, length, take}
use Rattle.std.specs.Prelude.{sum_by}
use Rattle.marked_lines.specs.Marks.{visible_places}
use Rattle.sheet_grid.specs.Cells.{filled_places}
use Rattle.sheet_grid.specs.Values.{placed_in}
use Rattle.generated_run.proofs.figures.filled_cells.Given as goal

abbrev pub invariant-loop-visible : goal.invariant-loop-visible
invariant-loop-visible l =
    (l.cells ≡ sum_by (λ row. length (filled_places (placed_in l.sheet) row)) (take l.visible (visible_places (placed_in l.sheet).rows))) × (l.cells ≤ 16000 * l.visible)
