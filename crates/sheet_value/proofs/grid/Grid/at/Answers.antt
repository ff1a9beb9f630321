use Rattle.sheet_value.proofs.Columns.{none_below, none_past, at_column}
use Rattle.sheet_value.specs.Tables.{filled}
use Rattle.sheet_value.proofs.grid.Grid.at.Goals.{then-row-self-via-then-row-self, then-row-self-via-else-row-self+then-col-self}
use Rattle.std.proofs.Common.{◌∙◌, ap}
use Rattle.sheet_value.proofs.grid.Grid.at.Goals as goal

pub returns-then-row-self : goal.returns-then-row-self
returns-then-row-self c =
    elim c.then-row-self.branch [
      | then-row-self-via-then-row-self w ↦ none_below c.self.inside.size c.self.inside.columns.items _ c.self.view_is c.self.invariant c.args.row c.args.col w.if-row-self.true
      | then-row-self-via-else-row-self+then-col-self w ↦ none_past c.self.inside.size c.self.inside.columns.items _ c.self.view_is c.self.invariant c.args.row c.args.col w.if-col-self.true
    ]

pub returns : goal.returns
returns c =
    c.at.ensures
    ∙ ap filled (at_column c.self.inside.size c.self.inside.columns.items _ c.self.view_is c.self.invariant c.args.col c.if-col-self.false c.index.result.now _ c.index.ensures c.args.row c.if-row-self.false)
