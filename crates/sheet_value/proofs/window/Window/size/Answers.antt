use Rattle.std.proofs.Common.{subst}
use Rattle.sheet_value.specs.Tables.{IsPart}
use Rattle.sheet_value.proofs.Columns.{is_part}
use Rattle.sheet_value.proofs.window.Window.size.Goals as goal

pub returns-clause-part : goal.returns-clause-part
returns-clause-part c = subst IsPart c.self.view_is (is_part c.self.inside.grid.now c.self.inside.top c.self.inside.left c.self.inside.size c.self.invariant)
