use Rattle.cell_addr.proofs.Slices.{take-drop_rest}
use Rattle.cell_addr.proofs.cell.read_range.Goals as goal

pub returns-in-None-clause-value : goal.returns-in-None-clause-value
returns-in-None-clause-value c = rw (c.between.ensures, c.read_cell-cell.ensures.value, ← c.in-None.ensures.place)

pub returns-in-Some-clause-value : goal.returns-in-Some-clause-value
returns-in-Some-clause-value c =
    rw (c.between-in-Some.ensures, c.read_cell.ensures.value, c.read_cell-in-Some.ensures.value, ← c.in-Some.ensures.place)
    (simp take-drop_rest)
