use Rattle.std.proofs.Common.{◌∙◌}
use Rattle.funcs.proofs.Shapes.{area_shape, only_items}
use Rattle.funcs.proofs.area.Area.only_column.Goals as goal

pub returns-clause-items : goal.returns-clause-items
returns-clause-items c =
    only_items c.args.self.now c.self.inside.shape (area_shape c.self.inside.place c.self.inside.shape c.args.self.now c.self.invariant c.self.view_is) c.if-self-ne1.false ∙ c.column.ensures
