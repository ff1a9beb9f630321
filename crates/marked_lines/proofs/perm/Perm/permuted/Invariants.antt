use Rattle.std.proofs.Common.{◌≡◌, ℕ, length, get_or, take}
use Rattle.marked_lines.specs.Moves.{source}
use Rattle.marked_lines.proofs.perm.Perm.permuted.Given as goal

abbrev pub invariant-loop-from : goal.invariant-loop-from
invariant-loop-from g l = record {
  long : length l.after.items ≡ length l.list;
  placed : (j : ℕ) (d : _) → get_or l.after.items j d ≡ get_or l.list (source (take l.from-index l.from-items) j) d;
}
