use Rattle.std.proofs.Common.{◌<◌, ◌∙◌, sym, subst, length, arith, ℕ}
use Rattle.funcs.specs.Areas.{item_at}
use Rattle.funcs.proofs.Shapes.{area_shape, few_items, in_rows, item_is}
use Rattle.funcs.proofs.area.Area.item.Goals as goal

pub overflow_cast-i : goal.overflow_cast-i
overflow_cast-i c =
    let few = few_items c.args.self.now c.self.inside.shape (area_shape c.self.inside.place c.self.inside.shape c.args.self.now c.self.invariant c.self.view_is) in
    record { fits = omega (arith, few, c.requires) }

pub at-requires-clause-row : goal.at-requires-clause-row
at-requires-clause-row c =
    let shape = area_shape c.self.inside.place c.self.inside.shape c.args.self.now c.self.invariant c.self.view_is in
    subst (λ (row : ℕ). row < length c.args.self.now) (sym c.row_and_col-row.ensures.row) (in_rows c.args.self.now c.self.inside.shape shape c.args.i c.requires)

pub returns : goal.returns
returns c =
    let shape = area_shape c.self.inside.place c.self.inside.shape c.args.self.now c.self.invariant c.self.view_is in
    item_is c.args.self.now c.self.inside.shape shape c.args.i _ ((λ k. item_at c.args.self.now (sym c.row_and_col-row.ensures.row k) (sym c.row_and_col-row.ensures.col k)) ∙ c.at.ensures)
