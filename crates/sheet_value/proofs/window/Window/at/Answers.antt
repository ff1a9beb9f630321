use Rattle.std.proofs.Common.{◌∙◌, ap, sym, ◌<◌, subst}
use Rattle.sheet_value.specs.Tables.{Table, value_at, filled}
use Rattle.sheet_value.proofs.Columns.{in_part}
use Rattle.sheet_value.proofs.window.Window.at.Goals as goal

pub returns : goal.returns
returns c =
    let inside = subst (λ (T : Table). (c.args.row < T.size.rows) × (c.args.col < T.size.cols)) (sym c.self.view_is) (c.requires.row, c.requires.col) in
    c.at.ensures
    ∙ (ap filled (sym (in_part c.self.inside.grid.now c.self.inside.top c.self.inside.left c.self.inside.size c.args.row c.args.col inside.0 inside.1))
    ∙ ap (λ (T : Table). filled (value_at T c.args.row c.args.col)) c.self.view_is)
