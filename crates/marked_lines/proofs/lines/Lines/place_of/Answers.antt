use Rattle.std.proofs.Common.{◌≡◌, arith, slice_get}
use Rattle.std.proofs.lemmas.Grind.{common_steps}
use Rattle.std.proofs.lemmas.Option.{gets}
use Rattle.marked_lines.specs.Marks.{visible_places}
use Rattle.marked_lines.proofs.Positions.{place_of-none}
use Rattle.marked_lines.proofs.Indexes.{index_of_place}
use Rattle.marked_lines.proofs.lines.Lines.place_of.Goals as goal
use Rattle.marked_lines.proofs.lines.Lines.place_of.Goals.{After-copied}

value : (c : After-copied) → c.copied.result ≡ slice_get (visible_places c.args.self.now) c.args.visible
value c = grind (arith, common_steps, gets)

pub returns-clause-none : goal.returns-clause-none
returns-clause-none c = rw (value c) (place_of-none c.args.self.now c.args.visible)

pub returns-clause-index : goal.returns-clause-index
returns-clause-index c = index_of_place c.args.self.now c.args.visible c.copied.result (value c)
