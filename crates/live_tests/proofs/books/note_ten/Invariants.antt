use Rattle.std.proofs.Common.{◌≡◌, ◌≤◌, length}
use Rattle.turn_book.specs.Passes.{IsSamePass}
use Rattle.live_tests.proofs.books.note_ten.Given as goal

abbrev pub invariant-loop-item : goal.invariant-loop-item
invariant-loop-item g l = record {
  same : IsSamePass l.fn.pass l.mine;
  counted : l.made ≡ length l.mine.made;
  few : l.made ≤ l.item;
}
