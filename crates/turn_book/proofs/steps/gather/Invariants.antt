use Rattle.std.proofs.Common.{◌≡◌, ◌++◌, [], map}
use Rattle.turn_book.specs.Turns.{resting, pass_of}
use Rattle.turn_book.proofs.Dealing.{AllOf}
use Rattle.turn_book.proofs.steps.gather.Given as goal

abbrev pub invariant-loop-pass : goal.invariant-loop-pass
invariant-loop-pass g l = record {
  table : l.seat.table_id ≡ l.table.table_id;
  rests : l.seat.me ≡ (resting l.seat.me.0.standings, []);
  of_book : AllOf l.table.table_id l.left.items;
  passes : l.left.items ++ map (pass_of l.table.table_id) l.seat.me.0.standings ≡ l.fn.passes;
}

abbrev pub decreases-loop-pass : goal.decreases-loop-pass
decreases-loop-pass g l = goal.left-loop-pass g l
