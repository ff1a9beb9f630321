use Rattle.std.proofs.Common.{true, false, sym, ◌∙◌}
use Rattle.live_script.proofs.Faults.{refused_site}
use Rattle.live_script.proofs.fault.site_refused.Goals as goal

pub returns-then-refuses_site : goal.returns-then-refuses_site
returns-then-refuses_site c = sym (refused_site c.args.sites.now c.args.closed c.args.name.now true (sym c.refuses_site.ensures ∙ c.if-refuses_site.true))

pub returns-else-refuses_site : goal.returns-else-refuses_site
returns-else-refuses_site c = sym (refused_site c.args.sites.now c.args.closed c.args.name.now false (sym c.refuses_site.ensures ∙ c.if-refuses_site.false))
