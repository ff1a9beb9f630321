use Rattle.std.proofs.Common.{sym}
use Rattle.sheet_grid.specs.Values.{placed_in}
use Rattle.author_ops.specs.Placed.{marks_on}
use Rattle.author_ops.proofs.Runs.{there}
use Rattle.author_ops.proofs.axis.place_of.Goals as goal

pub unreachable-requires : goal.unreachable-requires
unreachable-requires c = there (marks_on (placed_in c.args.sheet.now) c.args.axis) c.args.visible c.requires (sym c.in-None.ensures)
