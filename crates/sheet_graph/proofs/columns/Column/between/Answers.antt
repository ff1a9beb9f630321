use Rattle.std.proofs.Common.{◌≡◌, ◌+◌, ◌∙◌, List, ap, sym, subst, arith}
use Rattle.sheet_graph.specs.declared.columns.FormulaCell.{FormulaCell}
use Rattle.sheet_graph.specs.Columns.{IsColumn}
use Rattle.sheet_graph.proofs.Seats.{run_found, none_between}
use Rattle.sheet_graph.proofs.columns.Column.between.Goals as goal

pub returns-then-from-end : goal.returns-then-from-end
returns-then-from-end c =
    let some = c.if-from-end.true in (
      omega (arith, some),
      run_found c.args.self.now (subst (λ (seats : List FormulaCell). IsColumn seats) c.self.view_is c.self.invariant) c.args.top c.args.bottom c.first_from-from.result c.first_from-end.result c.index.result.now c.first_from-from.ensures.value c.first_from-end.ensures.value some c.first_from-end.ensures.within
          (c.index.ensures ∙ ap (λ (seats : List FormulaCell). Rattle.std.proofs.Common.get_or seats c.first_from-from.result c.index.result.now) c.self.view_is),
    )

pub returns-else-from-end : goal.returns-else-from-end
returns-else-from-end c =
    let none = c.if-from-end.false in
    none_between c.args.self.now (subst (λ (seats : List FormulaCell). IsColumn seats) c.self.view_is c.self.invariant) c.args.top c.args.bottom c.first_from-from.result c.first_from-end.result c.first_from-from.ensures.value c.first_from-end.ensures.value (omega (arith, none))
