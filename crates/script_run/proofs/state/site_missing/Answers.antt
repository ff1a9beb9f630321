use Rattle.std.proofs.Common.{true, false, sym, ◌∙◌}
use Rattle.script_run.proofs.Turns.{missing}
use Rattle.script_run.proofs.state.site_missing.Goals as goal

pub returns-then-is_declared : goal.returns-then-is_declared
returns-then-is_declared c closed = sym (missing c.args.run.now closed c.args.name.now true (sym (c.is_declared.ensures closed) ∙ c.if-is_declared.true))

pub returns-else-is_declared : goal.returns-else-is_declared
returns-else-is_declared c closed = sym (missing c.args.run.now closed c.args.name.now false (sym (c.is_declared.ensures closed) ∙ c.if-is_declared.false))
