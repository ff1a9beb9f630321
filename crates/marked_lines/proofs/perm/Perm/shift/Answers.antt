use Rattle.std.proofs.Common.{◌^◌, ◌-◌}
use Rattle.marked_lines.proofs.Shifts.{image_shifted, image_shifted-keeps, IsPerm-shifted, images_below}
use Rattle.marked_lines.proofs.perm.Perm.shift.Goals as goal

pub shifted_moves-requires : goal.shifted_moves-requires
shifted_moves-requires c = images_below c.self.inside.moves.items c.self.invariant (2 ^ 32 - 1) (rw c.self.view_is c.requires)

pub invariant_of-result : goal.invariant_of-result
invariant_of-result c = rw c.in_ok-moves.ensures (IsPerm-shifted c.args.p c.self.inside.moves.items c.self.invariant)

pub returns-clause-bijective : goal.returns-clause-bijective
returns-clause-bijective c = rw c.in_ok-moves.ensures (IsPerm-shifted c.args.p c.self.inside.moves.items c.self.invariant)

pub returns-clause-keeps : goal.returns-clause-keeps
returns-clause-keeps c = rw c.in_ok-moves.ensures (image_shifted-keeps c.args.p c.self.inside.moves.items)

pub returns-clause-others : goal.returns-clause-others
returns-clause-others c = λ q. rw (c.in_ok-moves.ensures, ← c.self.view_is) (image_shifted c.args.p c.self.inside.moves.items q)
