use Rattle.turn_book.specs.Passes.{IsSamePass}
use Rattle.live_tests.proofs.books.meet.Given as goal

abbrev pub invariant-loop : goal.invariant-loop
invariant-loop g l = IsSamePass l.fn.pass l.mine
