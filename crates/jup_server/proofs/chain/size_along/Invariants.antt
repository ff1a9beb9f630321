use Rattle.std.proofs.Common.{◌≡◌, take}
use Rattle.sheet_ops.specs.Chains.{sizes_past}
use Rattle.jup_server.proofs.chain.size_along.Given as goal

abbrev pub invariant-loop-i : goal.invariant-loop-i
invariant-loop-i l = l.size ≡ sizes_past l.fn.base (take l.i l.chain.items)
