use Rattle.live_threads.specs.Threads.{hub_site_count, stores_of}
use Rattle.sheetlive.proofs.play.run_script.Given as goal

-- this run's book, and the stores of its sites
abbrev pub ghosts-run_threads : goal.ghosts-run_threads
ghosts-run_threads g a = record { book = a.opening.book.id; size = a.script.now.size; sites = hub_site_count a.script.now; stores = stores_of a.opening.publishers }
