use Rattle.sheet_grid.specs.Values.{placed_in}
use Rattle.jup_server.proofs.Submitted.{new_represents, new_server}
use Rattle.jup_server.proofs.server.Server.new.Goals as goal

pub invariant_of-result : goal.invariant_of-result
invariant_of-result c = new_server c.args.size c.args.sites (placed_in c.in_ok-sheet.sheet) c.in_ok-links.links.items c.requires.rows c.requires.cols c.requires.sites c.in_ok-sheet.ensures.placed c.in_ok-links.ensures

pub returns-clause-represents : goal.returns-clause-represents
returns-clause-represents c = new_represents c.args.size c.args.sites (placed_in c.in_ok-sheet.sheet) c.in_ok-links.links.items c.in_ok-sheet.ensures.placed c.in_ok-links.ensures
