use Rattle.std.proofs.Common.{arith}
use Rattle.std.proofs.lemmas.Fmt.{decimal_digit}
use Rattle.formula_tests.proofs.printing.reads_back_what_it_prints.Goals as goal

pub read_back-requires-clause-short : goal.read_back-requires-clause-short
read_back-requires-clause-short g c =
    rw (c.in_ok-signed.ensures, c.in_ok-power.ensures, c.in_ok-inner.ensures)
    (rw (decimal_digit 1 (omega arith), decimal_digit 2 (omega arith), decimal_digit 3 (omega arith)) (omega arith))
