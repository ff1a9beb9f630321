use Rattle.std.proofs.Common.{refl}
use Rattle.value_snap.proofs.Replays.{seen_grows}
use Rattle.value_snap.proofs.reader.look.Goals as goal

pub returns-in-Ok-clause-never_older : goal.returns-in-Ok-clause-never_older
returns-in-Ok-clause-never_older c =
    seen_grows c.args.shown.now.size c.args.shown.now.snap c.args.front.now.list c.args.shown.now.front.list c.in-Ok.view c.args.span.now
    (c.if-not-begins.ensures.yes refl) c.again.ensures.ordered c.requires.replay c.in-Ok.ensures
