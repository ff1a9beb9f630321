use Rattle.std.proofs.Common.{◌≡◌, length, arith, ap}
use Rattle.marked_lines.specs.Marks.{visible_count}
use Rattle.marked_lines.proofs.Positions.{length-places_from, visible_count-le}
use Rattle.marked_lines.proofs.lines.Lines.visible.Goals as goal
use Rattle.marked_lines.proofs.lines.Lines.visible.Goals.{After-len}

counted : (c : After-len) → c.len.result ≡ visible_count c.self.inside.marks.items
counted c =
    let h = ap length c.self.invariant.visible in
    omega (arith, h, length-places_from 0 c.self.inside.marks.items, c.self.inside.places.ok.0)

pub overflow_cast-result : goal.overflow_cast-result
overflow_cast-result c = omega (arith, counted c, visible_count-le c.self.inside.marks.items, c.self.invariant.short)

pub returns-clause-value : goal.returns-clause-value
returns-clause-value c = rw (← c.self.view_is) (counted c)

pub returns-clause-within : goal.returns-clause-within
returns-clause-within c = rw (← c.self.view_is) (visible_count-le c.self.inside.marks.items)
