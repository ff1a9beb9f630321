use Rattle.pair_transform.proofs.Replaced.{none_noted, some_noted}
use Rattle.pair_transform.proofs.changes.note_change.Goals as goal

pub returns-in-None-clause-noted : goal.returns-in-None-clause-noted
returns-in-None-clause-noted g c = none_noted c.args.changes.now.items c.args.at c.requires c.args.change c.in-None.is

pub returns-in_ok-push_back-in-Some-clause-noted : goal.returns-in_ok-push_back-in-Some-clause-noted
returns-in_ok-push_back-in-Some-clause-noted g c =
    some_noted c.args.changes.now.items c.note_stays.new.changes.items c.args.at c.in_ok-note_stays-in-Some.ensures.same c.in_ok-note_stays-in-Some.ensures.many c.in-Some.value c.args.change c.in-Some.is
    c.push_back.new.self.items c.in_ok-push_back-in-Some.ensures.items
