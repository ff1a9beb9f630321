use Rattle.std.proofs.Common.{◌∙◌, [], ◌∷◌}
use Rattle.live_record.specs.declared.note.NoteKind.TheVariants as kind
use Rattle.live_site.proofs.Lining.{read_line, behind}
use Rattle.live_site.proofs.Going.{session_at, read_goes}
use Rattle.live_site.proofs.work.Work.read.Goals as goal

pub returns-in_err-text-clause-goes_on : goal.returns-in_err-text-clause-goes_on
returns-in_err-text-clause-goes_on g c =
    let e = c.read_text.ensures in
    read_goes c.args.self.now.session c.read_text.new.session e.same e.store e.kept

pub returns-in_err-write-clause-goes_on : goal.returns-in_err-write-clause-goes_on
returns-in_err-write-clause-goes_on g c =
    let s = c.args.self.now.session in
    let t = c.read_text.new.session in
    let e = c.read_text.ensures in
    session_at t c.write.new.self.session c.write.ensures.same.0 s (read_goes s t e.same e.store e.kept)

pub returns-clause-goes_on : goal.returns-clause-goes_on
returns-clause-goes_on g c =
    let s = c.args.self.now.session in
    let t = c.read_text.new.session in
    let e = c.read_text.ensures in
    session_at t c.note.new.self.session (c.note.ensures.same.0 ∙ c.write.ensures.same.0) s (read_goes s t e.same e.store e.kept)

pub returns-clause-did : goal.returns-clause-did
returns-clause-did g c =
    let old = c.args.self.now in
    let t = c.read_text.new.session in
    let e = c.in_ok-text.ensures in
    let l = c.read_length-length.result in
    read_line c.note.result c.args.number old c.note.new.self t (c.note.ensures.same.0 ∙ c.write.ensures.same.0) c.args.range.now c.args.name.now c.in_ok-text.text l (c.note.ensures.same.1 ∙ c.in_ok-write.ensures.ok)
    (behind c.note.result c.note.new.self.notes c.write.new.self.notes old.notes (record { line = c.args.number; kind = kind.Read; length = l } ∷ []) c.write.ensures.same.1 c.note.ensures.ok)
    e.same e.store e.length e.later c.requires.size c.read_length-length.ensures e.text
