use Rattle.sheet_grid.proofs.ToNumbers.{numbering_mapped}
use Rattle.sheet_grid.proofs.numbering.formula_numbered.Goals as goal

pub rename-requires : goal.rename-requires
rename-requires c = numbering_mapped c.args.rows.now c.args.cols.now c.requires.rows c.requires.cols c.in_ok-copy.copy
