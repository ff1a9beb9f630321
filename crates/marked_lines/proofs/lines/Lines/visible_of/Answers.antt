use Rattle.std.proofs.Common.{◌≡◌, ◌<◌, ◌∙◌, length, get_or, true, false, sym}
use Rattle.std.proofs.lemmas.List.{get_or_default}
use Rattle.marked_lines.proofs.Indexes.{place_of_shown}
use Rattle.marked_lines.proofs.lines.Lines.visible_of.Goals as goal

pub returns-else-index-clause-place : goal.returns-else-index-clause-place
returns-else-index-clause-place c =
    let marks = c.self.inside.marks.items in
    let within : c.args.p < length marks = rw c.self.view_is c.requires in
    let shown : get_or marks c.args.p true ≡ false = get_or_default marks c.args.p true c.index.result.now within ∙ sym c.index.ensures ∙ c.if-index.false in
    rw (c.visible_before.ensures.value, ← c.self.view_is) (place_of_shown marks c.args.p shown)
