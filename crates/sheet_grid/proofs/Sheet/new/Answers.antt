use Rattle.std.proofs.Common.{◌∙◌, ap}
use Rattle.sheet_ops.specs.Placed.{placed_size}
use Rattle.sheet_grid.specs.Values.{placed_in, numbered_sheet_of}
use Rattle.sheet_grid.proofs.OpeningSheet.{opened_tidy, opened_value, opened_placed}
use Rattle.sheet_grid.proofs.NumberedPast.{opened_size}
use Rattle.sheet_grid.proofs.Sheet.new.Goals as goal

pub invariant_of-result : goal.invariant_of-result
invariant_of-result c = rw (c.in_ok-rows.ensures, c.in_ok-cols.ensures) (opened_tidy c.args.size c.in_ok-cells.cells.items c.in_ok-cells.ensures c.requires.rows c.requires.cols)

pub returns-clause-numbers : goal.returns-clause-numbers
returns-clause-numbers c =
    (λ i. numbered_sheet_of (c.in_ok-rows.ensures i) (c.in_ok-cols.ensures i) c.in_ok-cells.cells.items) ∙ opened_value c.args.size c.in_ok-cells.cells.items c.in_ok-cells.ensures

pub returns-clause-placed : goal.returns-clause-placed
returns-clause-placed c =
    (λ i. placed_in (numbered_sheet_of (c.in_ok-rows.ensures i) (c.in_ok-cols.ensures i) c.in_ok-cells.cells.items))
    ∙ opened_placed c.args.size c.in_ok-cells.cells.items c.in_ok-cells.ensures c.requires.rows c.requires.cols

pub returns-clause-sized : goal.returns-clause-sized
returns-clause-sized c =
    ap placed_size ((λ i. placed_in (numbered_sheet_of (c.in_ok-rows.ensures i) (c.in_ok-cols.ensures i) c.in_ok-cells.cells.items))
    ∙ opened_placed c.args.size c.in_ok-cells.cells.items c.in_ok-cells.ensures c.requires.rows c.requires.cols)
    ∙ opened_size c.args.size
