use Rattle.live_tests.proofs.sites.a_site_does_its_lines.Given as goal

abbrev pub ghosts-begun : goal.ghosts-begun
ghosts-begun g a = record { book = a.book.now.id; size = record { rows = 1; cols = 1 }; sites = 1; stores = λ _. a.ends.0.store }
