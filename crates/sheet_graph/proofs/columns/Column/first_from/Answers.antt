use Rattle.std.proofs.Common.{rules, ◌≤◌, ◌∙◌, List, length, ap, arith}
use Rattle.std.proofs.lemmas.List.Sorted.{IsPartitionPoint-from_clause, IsPartitionedBy-ltb}
use Rattle.std.proofs.lemmas.Bool.Decides.{nat_tests}
use Rattle.std.proofs.Math.Dec.{ltb}
use Rattle.sheet_graph.specs.declared.columns.FormulaCell.{FormulaCell}
use Rattle.sheet_graph.specs.Columns.{seats_above}
use Rattle.sheet_graph.proofs.Seats.{rising_up, above_point, kept_few}
use Rattle.sheet_graph.proofs.columns.Column.first_from.Goals as goal
use Rattle.sheet_graph.proofs.columns.Column.first_from.Goals.{After-partition_point}

within : (c : After-partition_point) → c.partition_point.result ≤ length c.self.inside.seats.items
within c = rw (c.deref.ensures.value) at c.partition_point.ensures.bound

bound : (c : After-partition_point) → c.partition_point.result ≤ 16000
bound c =
    let few = kept_few c.self.inside.seats.items c.self.invariant in
    let inside = within c in
    omega (arith, few, inside)

pub overflow_cast-result : goal.overflow_cast-result
overflow_cast-result c = let few = bound c in omega (arith, few)

pub returns-clause-value : goal.returns-clause-value
returns-clause-value c =
    let seats = c.self.inside.seats.items in
    let parted = IsPartitionedBy-ltb (λ (s : FormulaCell). s.row) seats c.args.row (rising_up seats c.self.invariant.rising) in
    let point = IsPartitionPoint-from_clause (λ (s : FormulaCell). ltb s.row c.args.row) _ _ c.partition_point.ensures.partitioned (rw c.deref.ensures.value parted) (λ a r q k. search rules) in
    let halves = rw c.deref.ensures.value at point in
    above_point seats c.args.row c.partition_point.result (within c)
    (λ k d lt. let h = halves.0 k d (omega arith) lt in grind (arith, nat_tests))
    (λ k d le lt. let h = halves.1 k d le lt in grind (arith, nat_tests))
    ∙ ap (λ (xs : List FormulaCell). seats_above c.args.row xs) c.self.view_is

pub returns-clause-within : goal.returns-clause-within
returns-clause-within c = rw (← c.self.view_is) (within c)

pub returns-clause-few : goal.returns-clause-few
returns-clause-few c = rw (← c.self.view_is) (kept_few c.self.inside.seats.items c.self.invariant)
