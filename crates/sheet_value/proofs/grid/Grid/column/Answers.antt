use Rattle.std.proofs.Common.{◌∙◌, sym}
use Rattle.sheet_value.proofs.Columns.{past_cols, in_column}
use Rattle.sheet_value.proofs.grid.Grid.column.Goals as goal

pub returns-then-col-self : goal.returns-then-col-self
returns-then-col-self c row = sym (past_cols c.self.inside.size c.self.inside.columns.items _ c.self.view_is c.self.invariant row c.args.col c.if-col-self.true)

pub returns : goal.returns
returns c =
    in_column c.self.inside.size c.self.inside.columns.items _ c.self.view_is c.self.invariant c.args.col c.if-col-self.false c.values-values.result.now _
    (c.values-values.ensures ∙ c.index.ensures) c.min.result c.min.ensures
