use Rattle.std.proofs.Common.{◌≡◌, take}
use Rattle.std.specs.Prelude.{filter}
use Rattle.sheet_ops.specs.Lines.{has_number}
use Rattle.sheet_ops.proofs.effect.records_in.Given as goal

abbrev pub invariant-loop-rec : goal.invariant-loop-rec
invariant-loop-rec l = l.found.items ≡ filter (has_number l.slots) (take l.rec-index l.recs)
