use Rattle.std.proofs.Common.{◌≡◌, ℕ, [], take, length, false}
use Rattle.std.specs.Prelude.{Ok, slice_index_or}
use Rattle.sheet_ops.specs.Lines.{has_number}
use Rattle.sheet_ops.specs.Misfits.{walked, beside_earlier, rec_tests}
use Rattle.sheet_ops.proofs.misfits.walk_recs.Given as goal

abbrev pub invariant-loop-i : goal.invariant-loop-i
invariant-loop-i l = record {
  before : Ok l.at ≡ walked l.initial.at (beside_earlier (rec_tests l.size l.slots) [] (take l.i l.recs));
  room : length l.seen ≡ 16000;
  marked : (p : ℕ) → slice_index_or l.seen p false ≡ has_number (take l.i l.recs) p;
}
