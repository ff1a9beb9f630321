use Rattle.marked_lines.proofs.Positions.{visible_places-insert, visible_places-mark}
use Rattle.marked_lines.proofs.laws.edits.Goals as goal

pub returns-clause-insert : goal.returns-clause-insert
returns-clause-insert c = visible_places-insert

pub returns-clause-mark : goal.returns-clause-mark
returns-clause-mark c = visible_places-mark
