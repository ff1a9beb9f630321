use Rattle.std.proofs.Common.{sym}
use Rattle.funcs.proofs.Shapes.{area_shape, count}
use Rattle.funcs.proofs.area.Area.count.Goals as goal

pub returns-clause-count : goal.returns-clause-count
returns-clause-count c = sym (count c.args.self.now c.self.inside.shape (area_shape c.self.inside.place c.self.inside.shape c.args.self.now c.self.invariant c.self.view_is))
