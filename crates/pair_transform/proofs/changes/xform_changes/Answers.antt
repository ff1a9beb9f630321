use Rattle.std.specs.Prelude.{unwrap_or}
use Rattle.pair_transform.proofs.Pair.{pair_converges, own_fits, other_fits}
use Rattle.pair_transform.proofs.changes.xform_changes.Goals as goal

pub returns-clause-converges : goal.returns-clause-converges
returns-clause-converges c =
    pair_converges c.args.size c.args.own.now c.args.other.now c.requires.own c.requires.other (unwrap_or c.in_ok-own_change.own_change c.args.own.now) (unwrap_or c.in_ok-other_change.other_change c.args.other.now)
    c.in_ok-own_change.ensures c.in_ok-other_change.ensures

pub returns-clause-own_fits : goal.returns-clause-own_fits
returns-clause-own_fits c =
    own_fits c.args.size c.args.own.now c.args.other.now c.requires.own c.requires.other (unwrap_or c.in_ok-own_change.own_change c.args.own.now) (unwrap_or c.in_ok-other_change.other_change c.args.other.now)
    c.in_ok-own_change.ensures c.in_ok-other_change.ensures

pub returns-clause-other_fits : goal.returns-clause-other_fits
returns-clause-other_fits c =
    other_fits c.args.size c.args.own.now c.args.other.now c.requires.own c.requires.other (unwrap_or c.in_ok-own_change.own_change c.args.own.now) (unwrap_or c.in_ok-other_change.other_change c.args.other.now)
    c.in_ok-own_change.ensures c.in_ok-other_change.ensures
