use Rattle.std.proofs.Common.{◌≡◌}
use Rattle.sheet_ops.specs.Transforms.{numbers_from}
use Rattle.sheet_grid.proofs.numbered.first_numbers.Given as goal

abbrev pub invariant-loop-i : goal.invariant-loop-i
invariant-loop-i l = l.numbers.items ≡ numbers_from 0 l.i
