use Rattle.std.proofs.Common.{true, false, sym, ◌∙◌}
use Rattle.script_run.proofs.Turns.{refused_site}
use Rattle.script_run.proofs.state.site_refused.Goals as goal

pub returns-then-refuses_site : goal.returns-then-refuses_site
returns-then-refuses_site c = sym (refused_site c.args.run.now c.args.closed c.args.name.now true (sym c.refuses_site.ensures ∙ c.if-refuses_site.true))

pub returns-else-refuses_site : goal.returns-else-refuses_site
returns-else-refuses_site c = sym (refused_site c.args.run.now c.args.closed c.args.name.now false (sym c.refuses_site.ensures ∙ c.if-refuses_site.false))
