use Rattle.std.proofs.Common.{◌≡◌, [], take}
use Rattle.std.specs.Prelude.{Ok}
use Rattle.sheet_ops.specs.Misfits.{walked, beside_earlier, put_tests}
use Rattle.sheet_ops.proofs.misfits.walk_puts.Given as goal

abbrev pub invariant-loop-i : goal.invariant-loop-i
invariant-loop-i l = Ok l.at ≡ walked 0 (beside_earlier (put_tests l.size) [] (take l.i l.puts))
