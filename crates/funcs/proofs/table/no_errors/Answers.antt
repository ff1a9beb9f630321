use Rattle.std.proofs.Common.{◌∙◌}
use Rattle.funcs.specs.Refs.{owned}
use Rattle.funcs.specs.Areas.{items}
use Rattle.funcs.proofs.Walks.{not_error, no_error-next, no_error-stop}
use Rattle.funcs.proofs.table.no_errors.Goals as goal

pub returns-in-Err : goal.returns-in-Err
returns-in-Err c = c.loop-i.invariant ∙ no_error-stop (items c.args.area.now) c.loop-i.i c.in-Err.e c.in-Err.ensures

pub loop-i-preserved : goal.loop-i-preserved
loop-i-preserved c =
    c.loop-i.invariant ∙ no_error-next (items c.args.area.now) c.loop-i.i (owned c.item.result) c.item.ensures (not_error c.item.result c.in_default.not-Err)
