use Rattle.std.proofs.Common.{◌≡◌, [], refl, ap, sym, ◌∙◌}
use Rattle.sheet_ops.specs.declared.operation.Entry.{Entry}
use Rattle.sheet_ops.specs.Represents.{ClientState}
use Rattle.turn_book.specs.Passes.{PassOf}
use Rattle.value_snap.specs.Views.{store_size}
use Rattle.live_threads.proofs.threads.fn.begin.run.Goals as goal

pub run_site-requires-clause-room : goal.run_site-requires-clause-room
run_site-requires-clause-room g c κs alive = c.requires.book_is

pub run_site-requires-clause-book : goal.run_site-requires-clause-book
run_site-requires-clause-book g c κs alive = ap (λ (p : PassOf Entry). p.book) c.requires.fresh.pass

pub run_site-requires-clause-fresh : goal.run_site-requires-clause-fresh
run_site-requires-clause-fresh g c κs alive = record {
  seen = ap (λ (p : PassOf Entry). p.seen) c.requires.fresh.pass;
  made = ap (λ (p : PassOf Entry). p.made) c.requires.fresh.pass;
  unpushed = c.requires.fresh.unpushed;
  taken = ap (λ (s : ClientState). s.taken) c.requires.fresh.client;
}

pub run_site-requires-clause-number : goal.run_site-requires-clause-number
run_site-requires-clause-number g c κs alive = ap (λ (s : ClientState). s.site) c.requires.fresh.client

pub run_site-requires-clause-from : goal.run_site-requires-clause-from
run_site-requires-clause-from g c κs alive = c.requires.from

pub run_site-requires-clause-to : goal.run_site-requires-clause-to
run_site-requires-clause-to g c κs alive = c.requires.to

pub run_site-requires-clause-store : goal.run_site-requires-clause-store
run_site-requires-clause-store g c κs alive = c.requires.fresh.store_is

pub run_site-requires-clause-size : goal.run_site-requires-clause-size
run_site-requires-clause-size g c κs alive = ap store_size c.requires.fresh.store_is ∙ (c.requires.sized ∙ sym (ap (λ (s : ClientState). s.size) c.requires.fresh.client))

pub run_site-requires-clause-within : goal.run_site-requires-clause-within
run_site-requires-clause-within g c κs alive = c.requires.within

pub returns : goal.returns
returns g c = record {
  pass = c.run_site.ensures.pass;
  store_is = c.run_site.ensures.reader;
  run = c.run_site.ensures.run;
}
