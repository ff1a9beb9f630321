use Rattle.std.proofs.Common.{◌∙◌, sym}
use Rattle.sheet_grid.proofs.SheetValues.{whole}
use Rattle.sheet_grid.proofs.PositionReads.{sizes, all_inside}
use Rattle.sheet_grid.proofs.Sheet.size.Goals as goal

pub returns-clause-size : goal.returns-clause-size
returns-clause-size c = (λ i. record { rows = c.len.ensures.value i; cols = c.len-2.ensures.value i }) ∙ sym (sizes c.self.inside.rows c.self.inside.cols c.self.inside.cells.items c.self.invariant c.args.self.now c.self.view_is)

pub returns-clause-whole : goal.returns-clause-whole
returns-clause-whole c = whole c.self.inside.rows c.self.inside.cols c.self.inside.cells.items c.self.invariant c.args.self.now c.self.view_is

pub returns-clause-inside : goal.returns-clause-inside
returns-clause-inside c = all_inside c.self.inside.rows c.self.inside.cols c.self.inside.cells.items c.self.invariant c.args.self.now c.self.view_is
