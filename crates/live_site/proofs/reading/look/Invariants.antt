use Rattle.std.proofs.Common.{◌≡◌}
use Rattle.live_site.proofs.reading.look.Given as goal

abbrev pub invariant-loop : goal.invariant-loop
invariant-loop g l = record {
  next : (goal.iterator-loop g).can_next l.iterator';
  finite : (goal.iterator-loop g).is_finite l.iterator';
  same : l.session ≡ record l.fn.session { reader = l.session.reader; read_length = l.session.read_length };
  store : l.session.reader.store ≡ l.fn.session.reader.store;
  known : l.session.reader.known ≡ l.fn.session.reader.known;
}
