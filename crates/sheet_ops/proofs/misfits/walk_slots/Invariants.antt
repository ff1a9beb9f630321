use Rattle.std.proofs.Common.{◌≡◌, ℕ, [], take}
use Rattle.std.specs.Prelude.{Ok, nat_lt, nat_le}
use Rattle.std.specs.List.{list_all}
use Rattle.sheet_ops.specs.Misfits.{walked, beside_earlier, slot_tests}
use Rattle.sheet_ops.proofs.misfits.walk_slots.Given as goal

abbrev pub invariant-loop-i : goal.invariant-loop-i
invariant-loop-i l = record {
  before : Ok l.at ≡ walked 0 (beside_earlier (slot_tests l.size) [] (take l.i l.slots));
  least : (s : ℕ) → list_all (λ t. nat_lt t s) (take l.i l.slots) ≡ nat_le l.low s;
}
