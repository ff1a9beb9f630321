use Rattle.std.proofs.Common.{◌≡◌, ◌<◌, ◌-◌, sym, subst, take, drop}
use Rattle.sheet_value.specs.Tables.{Table, column_of, filled_up}
use Rattle.sheet_value.proofs.Columns.{column_in_part}
use Rattle.sheet_value.proofs.window.Window.column.Goals as goal

pub returns : goal.returns
returns c =
    let inside = subst (λ (T : Table). c.args.col < T.size.cols) (sym c.self.view_is) c.requires in
    subst
    (λ (T : Table). column_of T.rows c.args.col ≡ filled_up (take (c.min-bottom.result - c.min-top.result) (drop c.min-top.result c.column-values.result.now)) T.size.rows)
    c.self.view_is
    (column_in_part c.self.inside.grid.now c.self.inside.top c.self.inside.left c.self.inside.size c.args.col c.column-values.result.now c.min-top.result c.min-bottom.result inside
    c.column-values.ensures c.min-bottom.ensures c.min-top.ensures)
