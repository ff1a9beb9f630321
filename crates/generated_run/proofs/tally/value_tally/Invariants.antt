use Rattle.std.proofs.Common.{◌≡◌, ◌*◌, fold}
use Rattle.std.specs.List.{range_with_len, flat_map}
use Rattle.generated_run.specs.Tallies.{tallied, row_values, empty_tally, IsTallyWithin}
use Rattle.generated_run.proofs.tally.value_tally.Given as goal

abbrev pub invariant-loop-row : goal.invariant-loop-row
invariant-loop-row l = (l.found ≡ fold tallied empty_tally (flat_map (row_values l.grid) (range_with_len 0 l.row))) × IsTallyWithin (16000 * l.row) l.found
