use Rattle.pair_transform.proofs.Pair.{pair_converges, own_fits, other_fits}
use Rattle.pair_transform.proofs.xform.Goals as goal

pub returns-clause-converges : goal.returns-clause-converges
returns-clause-converges c = pair_converges c.args.size c.args.own.now c.args.other.now c.requires.own c.requires.other c.in_ok-after.after c.in_ok-effect.effect c.in_ok-after.ensures c.in_ok-effect.ensures

pub returns-clause-own_fits : goal.returns-clause-own_fits
returns-clause-own_fits c = own_fits c.args.size c.args.own.now c.args.other.now c.requires.own c.requires.other c.in_ok-after.after c.in_ok-effect.effect c.in_ok-after.ensures c.in_ok-effect.ensures

pub returns-clause-other_fits : goal.returns-clause-other_fits
returns-clause-other_fits c = other_fits c.args.size c.args.own.now c.args.other.now c.requires.own c.requires.other c.in_ok-after.after c.in_ok-effect.effect c.in_ok-after.ensures c.in_ok-effect.ensures
