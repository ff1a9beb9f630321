use Rattle.std.proofs.Common.{ℕ, length, ap, ◌∙◌}
use Rattle.std.specs.Prelude.{min}
use Rattle.live_site.proofs.Lining.{pushed_line}
use Rattle.live_site.proofs.Going.{session_at, push_goes}
use Rattle.live_site.proofs.work.Work.push.Goals as goal

pub returns-in_err-push-clause-goes_on : goal.returns-in_err-push-clause-goes_on
returns-in_err-push-clause-goes_on g c = push_goes c.args.self.now.session c.push.new.self c.push.ensures.same c.push.ensures.pass c.push.ensures.seen

pub returns-clause-goes_on : goal.returns-clause-goes_on
returns-clause-goes_on g c =
    let s = c.args.self.now.session in
    let t = c.push.new.self in
    session_at t c.note.new.self.session c.note.ensures.same.0 s (push_goes s t c.push.ensures.same c.push.ensures.pass c.push.ensures.seen)

pub returns-clause-did : goal.returns-clause-did
returns-clause-did g c name =
    let old = c.args.self.now in
    let t = c.push.new.self in
    let e = c.in_ok-push.ensures in
    pushed_line c.note.result c.args.number old c.note.new.self t c.note.ensures.same.0 c.seen-seen.result c.note.ensures.same.1 e.holds e.seen c.taken-taken.ensures.stands
    c.args.count c.in_ok-push.field-0 c.note.ensures.ok e.same e.own e.count (e.all ∙ ap (λ (m : ℕ). min m (length old.session.unpushed)) c.unwrap_or.ensures) c.seen-seen.ensures name
