use Rattle.sheet_grid.specs.Values.{placed_in}
use Rattle.jup_client.proofs.Stays.{new_client, new_represents}
use Rattle.jup_client.proofs.client.Client.new.Goals as goal

pub invariant_of-result : goal.invariant_of-result
invariant_of-result c = new_client c.args.site.0 c.args.size (placed_in c.in_ok-sheet.sheet) c.new-2.result.items c.requires.from c.requires.rows c.requires.cols c.in_ok-sheet.ensures.placed c.new-2.ensures.items

pub returns-clause-represents : goal.returns-clause-represents
returns-clause-represents c = new_represents c.args.site.0 c.args.size (placed_in c.in_ok-sheet.sheet) c.new-2.result.items c.in_ok-sheet.ensures.placed c.new-2.ensures.items
