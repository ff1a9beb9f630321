use Rattle.std.proofs.Common.{refl}
use Rattle.pair_transform.proofs.Pair.{pair_converges}
use Rattle.pair_transform.proofs.changes.leaves_both.Goals as goal

pub returns-then-leaves_own-clause-converges : goal.returns-then-leaves_own-clause-converges
returns-then-leaves_own-clause-converges c = λ yes size fits effect_fits.
    pair_converges size c.args.own.now c.args.other.now fits effect_fits c.args.own.now c.args.other.now (c.if-leaves_own.ensures.own refl c.args.own.now) (c.leaves_other.ensures.other yes size)
