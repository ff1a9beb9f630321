use Rattle.std.proofs.Common.{subst, sym}
use Rattle.sheet_ops.specs.History.{sheet_of}
use Rattle.sheet_ops.specs.Placed.{PlacedSheet, placed}
use Rattle.sheet_grid.specs.Values.{placed_in}
use Rattle.script_run.specs.World.{site_view}
use Rattle.generated_run.specs.Held.{AreRowsHeld}
use Rattle.generated_run.proofs.HowMany.{same_of}
use Rattle.generated_run.proofs.figures.equals_server.Goals as goal

pub same_sheets-requires : goal.same_sheets-requires
same_sheets-requires c = subst (λ (P : PlacedSheet). AreRowsHeld P c.args.rows.now) (sym c.server_sheet.ensures) c.requires.rows

pub returns : goal.returns
returns c =
    same_of (placed_in c.replica.result.now) (placed_in c.server_sheet.result.now) (placed (site_view c.args.run.now c.args.place)) (placed (sheet_of c.args.run.now.size c.args.run.now.history))
    c.same_sheets.result c.replica.ensures c.server_sheet.ensures c.same_sheets.ensures
