use Rattle.std.proofs.Common.{◌≡◌, ◌++◌, drop}
use Rattle.sheet_grid.specs.Values.{placed_in}
use Rattle.sheet_text.specs.Shown.{shown_placed}
use Rattle.sheet_text.specs.Texts.{rows_lines, sheet_text}
use Rattle.sheet_text.proofs.lines.sheet_lines.Given as goal

abbrev pub invariant-loop-visible : goal.invariant-loop-visible
invariant-loop-visible l = l.out.items ++ rows_lines l.visible (drop l.visible (shown_placed (placed_in l.sheet)).cells) ≡ sheet_text l.head (shown_placed (placed_in l.sheet))
