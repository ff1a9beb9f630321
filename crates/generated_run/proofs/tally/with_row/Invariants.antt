use Rattle.std.proofs.Common.{◌≡◌, ◌+◌, ◌*◌, fold, map}
use Rattle.std.specs.List.{range_with_len}
use Rattle.sheet_value.specs.Tables.{value_at}
use Rattle.generated_run.specs.Tallies.{tallied, IsTallyWithin}
use Rattle.generated_run.proofs.tally.with_row.Given as goal

abbrev pub invariant-loop-col : goal.invariant-loop-col
invariant-loop-col l = (l.found ≡ fold tallied l.initial.found (map (value_at l.grid l.row) (range_with_len 0 l.col))) × IsTallyWithin (16000 * l.row + l.col) l.found
