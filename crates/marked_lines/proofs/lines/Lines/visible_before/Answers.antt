use Rattle.std.proofs.Common.{rules, ◌≡◌, ◌≤◌, arith, length}
use Rattle.std.proofs.lemmas.List.Sorted.{IsPartitionPoint-from_clause, IsPartitionedBy-ltb}
use Rattle.std.proofs.lemmas.Bool.Decides.{nat_tests}
use Rattle.std.proofs.Math.Dec.{ltb}
use Rattle.marked_lines.specs.Marks.{visible_places, visible_count}
use Rattle.marked_lines.proofs.Positions.{places_from-up, places_from-split, length-places_from, visible_count-le}
use Rattle.marked_lines.proofs.lines.Lines.visible_before.Goals as goal
use Rattle.marked_lines.proofs.lines.Lines.visible_before.Goals.{After-partition_point}

pub returns-clause-value : goal.returns-clause-value
returns-clause-value c =
    let marks = c.self.inside.marks.items in
    let places : c.deref.result.now ≡ visible_places marks = rw c.deref.ensures.value c.self.invariant.visible in
    let parted = IsPartitionedBy-ltb (λ q. q) (visible_places marks) c.args.p (places_from-up 0 marks) in
    let point = IsPartitionPoint-from_clause (λ q. ltb q c.args.p) _ _ c.partition_point.ensures.partitioned (rw places parted) (λ a r q k. search rules) in
    let within : c.partition_point.result ≤ length (visible_places marks) = rw (places) at c.partition_point.ensures.bound in
    let halves = rw places at point in
    rw (← c.self.view_is) (places_from-split 0 marks c.args.p c.partition_point.result within
    (λ i lt. let h = halves.0 i 0 (omega arith) lt in grind (arith, nat_tests))
    (λ i le lt. let h = halves.1 i 0 le lt in grind (arith, nat_tests)))

bounds : (c : After-partition_point) → (c.partition_point.result ≤ visible_count c.self.inside.marks.items)
bounds c =
    let n = length-places_from 0 c.self.inside.marks.items in
    let places : c.deref.result.now ≡ visible_places c.self.inside.marks.items = rw c.deref.ensures.value c.self.invariant.visible in
    let within : c.partition_point.result ≤ length (visible_places c.self.inside.marks.items) = rw (places) at c.partition_point.ensures.bound in
    omega (arith, n, within)

pub returns-clause-within : goal.returns-clause-within
returns-clause-within c = rw (← c.self.view_is) (bounds c)

pub returns-clause-short : goal.returns-clause-short
returns-clause-short c = rw (← c.self.view_is) (omega (arith, visible_count-le c.self.inside.marks.items, c.self.invariant.short))
