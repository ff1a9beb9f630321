use Rattle.std.proofs.Common.{sym}
use Rattle.cell_addr.proofs.Digits.{count_size}
use Rattle.cell_addr.proofs.number.read_count.Goals as goal

pub returns-then-is_count-clause-within : goal.returns-then-is_count-clause-within
returns-then-is_count-clause-within c = rw c.value_of.ensures (count_size c.args.text.now (sym c.if-is_count.ensures))
