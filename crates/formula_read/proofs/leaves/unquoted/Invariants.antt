use Rattle.std.proofs.Common.{◌≡◌, ◌++◌, ◌-◌, length, drop}
use Rattle.formula_read.proofs.Values.{undoubled}
use Rattle.formula_read.proofs.leaves.unquoted.Given as goal

abbrev pub invariant-loop-at : goal.invariant-loop-at
invariant-loop-at l = undoubled l.inner ≡ l.text.items ++ undoubled (drop l.at l.inner)

abbrev pub decreases-loop-at : goal.decreases-loop-at
decreases-loop-at l = length l.inner - l.at
