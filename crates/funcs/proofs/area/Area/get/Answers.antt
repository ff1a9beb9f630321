use Rattle.funcs.proofs.Shapes.{area_shape, below_rows, past_cols}
use Rattle.funcs.proofs.area.Area.get.Goals.{else-row-self-via-then-row-self+else-col-self, else-row-self-via-else-row-self}
use Rattle.funcs.proofs.area.Area.get.Goals as goal

pub returns : goal.returns
returns c =
    let shape = area_shape c.self.inside.place c.self.inside.shape c.args.self.now c.self.invariant c.self.view_is in
    elim c.else-row-self.branch [
      | else-row-self-via-then-row-self+else-col-self w ↦ past_cols c.args.self.now c.self.inside.shape shape c.args.row c.args.col w.if-col-self.false
      | else-row-self-via-else-row-self w ↦ below_rows c.args.self.now c.self.inside.shape shape c.args.row c.args.col w.if-row-self.false
    ]
