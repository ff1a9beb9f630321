use Rattle.std.proofs.Common.{ap, ◌∙◌, drop}
use Rattle.pair_transform.proofs.Replaced.{drop_again}
use Rattle.jup_server.proofs.chain.drop_front.Goals as goal

pub loop-preserved : goal.loop-preserved
loop-preserved g c = c.pop_front.ensures.rest ∙ (ap (drop 1) c.loop.invariant ∙ drop_again c.loop.counter c.args.list.now.items)
