use Rattle.std.proofs.Common.{◌≡◌}
use Rattle.turn_book.proofs.steps.take.Given as goal

abbrev pub invariant-loop : goal.invariant-loop
invariant-loop g l = record {
  can : (goal.iterator-loop g).can_next l.iterator';
  finite : (goal.iterator-loop g).is_finite l.iterator';
  same_table : l.seat.table_id ≡ l.fn.seat.table_id;
  same_seat : l.seat.id ≡ l.fn.seat.id;
  same_view : l.seat.me ≡ l.fn.seat.me;
}
