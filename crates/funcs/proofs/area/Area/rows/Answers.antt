use Rattle.std.proofs.Common.{◌∙◌, ◌*◌, sym}
use Rattle.funcs.proofs.Shapes.{area_shape, count}
use Rattle.funcs.proofs.area.Area.rows.Goals as goal

pub returns-clause-items : goal.returns-clause-items
returns-clause-items c =
    let shape = area_shape c.self.inside.place c.self.inside.shape c.args.self.now c.self.invariant c.self.view_is in
    count c.args.self.now c.self.inside.shape shape ∙ (λ i. sym shape.rows i * sym shape.cols i)
