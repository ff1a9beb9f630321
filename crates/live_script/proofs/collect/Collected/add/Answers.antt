use Rattle.std.proofs.Common.{◌≡◌, true, rules}
use Rattle.live_script.proofs.Holding.{held_note, held_sheet, held_site, held_closing, closing, apart_here}
use Rattle.live_script.proofs.SiteLines.{on_ok}
use Rattle.live_script.proofs.collect.Collected.add.Goals as goal

pub returns-in-Note : goal.returns-in-Note
returns-in-Note c cs h = held_note cs c.args.self.now c.args.number c.args.command c.in-Note.is h

pub returns-in-Sheet : goal.returns-in-Sheet
returns-in-Sheet c cs h = held_sheet cs c.self.inside.size c.self.inside.sites.items c.self.inside.closed c.args.self.now c.self.view_is c.args.number c.args.command c.in-Sheet.size c.in-Sheet.is c.requires.accepted c.requires.within h

pub returns-in-Site : goal.returns-in-Site
returns-in-Site c cs h = on_ok c.add_site.result (λ adds. held_site cs c.args.self.now c.args.number c.args.command c.in-Site.name c.add_site.new.self c.in-Site.is c.requires.accepted h adds) c.add_site.ensures

pub returns-in_default : goal.returns-in_default
returns-in_default c cs h =
    let shuts : closing c.args.command ≡ true = search rules in
    let at = c.self-in_default in
    on_ok c.add_lines.result (λ is. held_closing cs at.inside.size at.inside.sites.items at.inside.closed c.args.self.now at.view_is c.args.number c.args.command c.add_lines.new.sites.items shuts c.requires.within c.requires.addressed h is)
    (c.add_lines.ensures (apart_here cs at.inside.size at.inside.sites.items at.inside.closed c.args.self.now at.view_is h))
