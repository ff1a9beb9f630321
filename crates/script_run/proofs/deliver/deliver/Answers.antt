use Rattle.jup_client.specs.Clients.{down_at}
use Rattle.script_run.proofs.Deliveries.{taken_small, taken_counts}
use Rattle.script_run.proofs.deliver.deliver.Goals as goal

pub returns-in-Ok-clause-represents : goal.returns-in-Ok-clause-represents
returns-in-Ok-clause-represents c G r mine = c.in-Ok.ensures.represents G r mine

pub returns-in-Ok-clause-counts : goal.returns-in-Ok-clause-counts
returns-in-Ok-clause-counts c =
    taken_counts c.args.client.now (down_at c.args.client.now.size c.args.history.now c.args.site.0 c.args.client.now.taken) c.take_next.new.client c.in-Ok.ensures.taken
    (taken_small c.args.client.now c.args.site.0 c.args.history.now c.args.effects.now c.requires)

pub untaken-requires : goal.untaken-requires
untaken-requires c = c.in-Err.ensures.represents c.requires.made c.requires.represents c.requires.mine
