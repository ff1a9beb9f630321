use Rattle.std.proofs.Common.{◌∙◌}
use Rattle.formula_read.proofs.Turns.{name_begun}
use Rattle.formula_read.proofs.steps.begin.Goals as goal

pub returns-in_ok-push-in-Name : goal.returns-in_ok-push-in-Name
returns-in_ok-push-in-Name c t h =
    name_begun t c.args.bytes.now c.in_ok-fun-in-Name.fun c.none.result c.args.frames.now c.push.new.self (h.0 ∙ c.in-Name.is, h.1) c.in_ok-fun-in-Name.ensures.proper c.in_ok-fun-in-Name.ensures.name c.none.ensures
    c.in_ok-push-in-Name.ensures.ok
