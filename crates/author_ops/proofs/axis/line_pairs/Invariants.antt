use Rattle.std.proofs.Common.{◌≡◌, take}
use Rattle.sheet_grid.specs.Values.{placed_in}
use Rattle.author_ops.specs.Copies.{line_pairs}
use Rattle.author_ops.specs.Placed.{marks_on}
use Rattle.author_ops.proofs.axis.line_pairs.Given as goal

abbrev pub invariant-loop-k : goal.invariant-loop-k
invariant-loop-k l = l.pairs.items ≡ line_pairs (marks_on (placed_in l.sheet) l.axis) l.from l.to l.k
