use Rattle.std.proofs.Common.{◌∙◌, sym}
use Rattle.script_read.proofs.Cuts.{line_of_more}
use Rattle.script_read.proofs.read.form_of_words.Goals as goal

pub returns-in-Some-entry : goal.returns-in-Some-entry
returns-in-Some-entry c =
    c.of_more_words.ensures
    ∙ sym
    (line_of_more c.args.line.now _ c.in-Some.rest.now _ c.in-Some-rest.rest.now _ c.in-Some-entry.entry.now
    (rw c.in-Some.is at c.cut.ensures)
    (rw c.in-Some-rest.is at c.cut-2.ensures)
    (rw c.in-Some-entry.is at c.cut-3.ensures))
