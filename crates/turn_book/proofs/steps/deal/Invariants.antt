use Rattle.std.proofs.Common.{◌≡◌, [], map}
use Rattle.std.specs.Prelude.{drop, take}
use Rattle.turn_book.specs.Turns.{newcomers, resting, pass_of}
use Rattle.turn_book.proofs.steps.deal.Given as goal

abbrev pub invariant-loop-number : goal.invariant-loop-number
invariant-loop-number g l = record {
  table : l.seat.table_id ≡ l.table.table_id;
  rests : l.seat.me ≡ (resting (drop l._number (newcomers (g.S.Kept.opening l.table.key.state.value) l.passes).standings), []);
  dealt : l.dealt ≡ map (pass_of l.table.table_id) (take l._number (newcomers (g.S.Kept.opening l.table.key.state.value) l.passes).standings);
}
