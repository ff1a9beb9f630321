use Rattle.std.proofs.Common.{true, false, sym, ◌∙◌}
use Rattle.live_script.proofs.Faults.{missing}
use Rattle.live_script.proofs.fault.site_missing.Goals as goal

pub returns-then-is_declared : goal.returns-then-is_declared
returns-then-is_declared c closed = sym (missing c.args.sites.now closed c.args.name.now true (sym c.is_declared.ensures ∙ c.if-is_declared.true))

pub returns-else-is_declared : goal.returns-else-is_declared
returns-else-is_declared c closed = sym (missing c.args.sites.now closed c.args.name.now false (sym c.is_declared.ensures ∙ c.if-is_declared.false))
