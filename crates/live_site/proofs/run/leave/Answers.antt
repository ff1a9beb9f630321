use Rattle.std.proofs.Common.{◌≡◌, ◌≤◌, ◌++◌, ap, sym, ◌∙◌, arith}
use Rattle.live_session.specs.Sessions.{SessionOf}
use Rattle.turn_book.specs.Passes.{made_in}
use Rattle.live_site.proofs.Going.{goes_further, push_goes, end_goes, all_left, left_by_end}
use Rattle.live_site.proofs.run.leave.Goals as goal

pub returns-clause-goes_on : goal.returns-clause-goes_on
returns-clause-goes_on g c =
    let s = c.args.session.now in
    let t = c.push-pushed.new.self in
    let u = c.announce_end.new.self in
    let e = c.push-pushed.ensures in
    let f = c.announce_end.ensures in
    goes_further s t u (push_goes s t e.same e.pass e.seen) (end_goes t u f.same f.pass f.seen)

pub returns-clause-all : goal.returns-clause-all
returns-clause-all g c =
    let s = c.args.session.now in
    let t = c.push-pushed.new.self in
    let u = c.announce_end.new.self in
    let e = c.push-pushed.ensures in
    left_by_end t u c.push-pushed.result c.announce_end.ensures.same (all_left s t c.push-pushed.result c.taken-taken.ensures.stands e.count e.all)

pub returns-clause-same : goal.returns-clause-same
returns-clause-same g c =
    let t = c.push-pushed.new.self in
    let u = c.announce_end.new.self in
    c.announce_end.ensures.same ∙ (λ i. record (c.push-pushed.ensures.same i) { pass = u.pass; unpushed = (sym c.announce_end.ensures.same i).unpushed })

pub returns-clause-holds : goal.returns-clause-holds
returns-clause-holds g c = omega (arith, c.push-pushed.ensures.holds, c.announce_end.ensures.holds)

pub returns-clause-own : goal.returns-clause-own
returns-clause-own g c =
    let t = c.push-pushed.new.self in
    let u = c.announce_end.new.self in
    let f = c.announce_end.ensures in
    (λ i. made_in (record u.pass { made = f.made i }) ++ (f.same i).unpushed) ∙ c.push-pushed.ensures.own
