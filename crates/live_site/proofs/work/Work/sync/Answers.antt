use Rattle.live_site.proofs.Lining.{synced_line}
use Rattle.live_site.proofs.Going.{session_at, sync_goes}
use Rattle.live_site.proofs.work.Work.sync.Goals as goal

pub returns-in_err-length-clause-goes_on : goal.returns-in_err-length-clause-goes_on
returns-in_err-length-clause-goes_on g c =
    let e = c.sync.ensures in
    sync_goes c.args.self.now.session c.sync.new.self e.same e.pass e.seen e.reader.0 e.reader.1

pub returns-clause-goes_on : goal.returns-clause-goes_on
returns-clause-goes_on g c =
    let s = c.args.self.now.session in
    let t = c.sync.new.self in
    let e = c.sync.ensures in
    session_at t c.note.new.self.session c.note.ensures.same.0 s (sync_goes s t e.same e.pass e.seen e.reader.0 e.reader.1)

pub returns-clause-did : goal.returns-clause-did
returns-clause-did g c name =
    let old = c.args.self.now in
    let t = c.sync.new.self in
    let e = c.in_ok-length.ensures in
    synced_line c.note.result c.args.number old c.note.new.self t c.note.ensures.same.0 c.in_ok-length.length c.note.ensures.same.1 e.holds e.seen c.taken-taken.ensures.stands
    c.note.ensures.ok e.same e.own e.all e.length e.told e.later e.rises name
