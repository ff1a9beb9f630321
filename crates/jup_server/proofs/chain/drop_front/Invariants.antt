use Rattle.std.proofs.Common.{◌≡◌, drop}
use Rattle.jup_server.proofs.chain.drop_front.Given as goal

abbrev pub invariant-loop : goal.invariant-loop
invariant-loop g l = l.list.items ≡ drop l.counter l.fn.list.items
