use Rattle.live_tests.proofs.desks.a_desk_runs_until_all_ended.Given as goal

abbrev pub ghosts-begun : goal.ghosts-begun
ghosts-begun g a = record { book = a.book.now.id; size = record { rows = 1; cols = 1 }; sites = 1; stores = λ _. a.publisher.store }
