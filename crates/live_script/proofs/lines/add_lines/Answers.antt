use Rattle.live_script.proofs.Holding.{lineless}
use Rattle.live_script.proofs.lines.add_lines.Goals as goal

pub returns : goal.returns
returns c apart = lineless c.args.number c.args.command c.in-Note.is c.args.sites.now.items
