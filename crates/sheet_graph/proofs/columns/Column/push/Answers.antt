use Rattle.std.proofs.Common.{List, ◌<◌, ◌+◌, sym, subst}
use Rattle.std.specs.List.{AllByRecursion}
use Rattle.sheet_graph.specs.declared.columns.FormulaCell.{FormulaCell}
use Rattle.sheet_graph.specs.Columns.{IsColumn, EndsAt}
use Rattle.sheet_graph.proofs.Seats.{kept_push, ends_push}
use Rattle.sheet_graph.proofs.columns.Column.push.Goals as goal
use Rattle.sheet_graph.proofs.columns.Column.push.Goals.{In_ok-push}

kept : (c : In_ok-push) → IsColumn c.push.new.self.items
kept c =
    subst (λ (seats : List FormulaCell). IsColumn seats) (sym c.in_ok-push.ensures.items)
    (kept_push c.self.inside.seats.items (record { row = c.args.row; number = c.args.number }) c.self.invariant
    (subst (λ (seats : List FormulaCell). AllByRecursion (λ s. s.row < c.args.row) seats) (sym c.self.view_is) c.requires.below) c.requires.row c.requires.number
    (subst (λ (seats : List FormulaCell). EndsAt seats c.args.number) (sym c.self.view_is) c.requires.counted))

pub invariant_of-self-2 : goal.invariant_of-self-2
invariant_of-self-2 c = kept c

pub returns-clause-rising : goal.returns-clause-rising
returns-clause-rising c = (kept c).rising

pub returns-clause-counted : goal.returns-clause-counted
returns-clause-counted c =
    subst (λ (seats : List FormulaCell). EndsAt seats (c.args.number + 1)) (sym c.in_ok-push.ensures.items)
    (ends_push c.self.inside.seats.items (record { row = c.args.row; number = c.args.number }) (subst (λ (seats : List FormulaCell). EndsAt seats c.args.number) (sym c.self.view_is) c.requires.counted))
