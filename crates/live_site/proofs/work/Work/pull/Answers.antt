use Rattle.std.proofs.Common.{ℕ, ◌<◌, ◌-◌, length, ap, ◌∙◌, arith}
use Rattle.std.specs.Prelude.{min, ◌^◌}
use Rattle.turn_book.specs.Passes.{seen_by}
use Rattle.live_site.proofs.Lining.{pulled_line}
use Rattle.live_site.proofs.Going.{session_at, pull_goes}
use Rattle.live_site.proofs.work.Work.pull.Goals as goal

pub returns-in_err-pull-clause-goes_on : goal.returns-in_err-pull-clause-goes_on
returns-in_err-pull-clause-goes_on g c =
    let e = c.pull.ensures in
    let took = c.in_err-pull.ensures.err in
    pull_goes c.args.self.now.session c.pull.new.self took.0 took.2 e.same e.pass e.seen

pub returns-clause-goes_on : goal.returns-clause-goes_on
returns-clause-goes_on g c =
    let s = c.args.self.now.session in
    let t = c.pull.new.self in
    let e = c.pull.ensures in
    session_at t c.note.new.self.session c.note.ensures.same.0 s (pull_goes s t c.in_ok-pull.field-0 c.in_ok-pull.ensures.ok e.same e.pass e.seen)

pub returns-clause-did : goal.returns-clause-did
returns-clause-did g c name =
    let old = c.args.self.now in
    let t = c.pull.new.self in
    let e = c.in_ok-pull.ensures in
    let few : length (seen_by t.pass) < 2 ^ 32 = omega (arith, c.seen-seen.ensures) in
    pulled_line c.note.result c.args.number old c.note.new.self t c.note.ensures.same.0 c.taken-taken.result c.note.ensures.same.1 e.holds e.seen c.taken-taken.ensures.stands
    c.args.count c.in_ok-pull.field-0 c.note.ensures.ok e.same e.made e.ok (e.all ∙ ap (λ (m : ℕ). min m (length (seen_by t.pass) - old.session.client.taken)) c.unwrap_or.ensures) few c.taken-taken.ensures.taken name
