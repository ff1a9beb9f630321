use Rattle.live_site.proofs.Doing.{orderly}
use Rattle.live_site.proofs.Lining.{edited_line}
use Rattle.live_site.proofs.Going.{session_at, edit_goes, edit_holds}
use Rattle.live_site.proofs.work.Work.edit.Goals as goal

pub edit-answer-requires : goal.edit-answer-requires
edit-answer-requires c = orderly c.args.edit.now c.requires

pub returns-clause-goes_on : goal.returns-clause-goes_on
returns-clause-goes_on c =
    let s = c.args.self.now.session in
    let t = c.edit-answer.new.self in
    session_at t c.write.new.self.session c.write.ensures.same.0 s (edit_goes s t c.edit-answer.result c.args.edit.now c.edit-answer.ensures.ok c.edit-answer.ensures.err)

pub returns-in_err-text-clause-goes_on : goal.returns-in_err-text-clause-goes_on
returns-in_err-text-clause-goes_on c =
    edit_goes c.args.self.now.session c.edit-answer.new.self c.edit-answer.result c.args.edit.now c.edit-answer.ensures.ok c.edit-answer.ensures.err

pub returns-clause-did : goal.returns-clause-did
returns-clause-did c name =
    let old = c.args.self.now in
    let t = c.edit-answer.new.self in
    let e = c.edit-answer.ensures in
    edited_line c.write.result c.args.number old c.write.new.self t c.write.ensures.same.0 c.args.edit.now c.edit-answer.result c.in_ok-text.text c.write.ensures.ok c.write.ensures.same.1 c.taken-taken.ensures.stands
    e.ok e.cause e.err (edit_holds old.session t c.edit-answer.result c.args.edit.now e.ok e.err) c.in_ok-text.ensures name
