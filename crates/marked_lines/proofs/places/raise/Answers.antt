use Rattle.std.proofs.Common.{◌+◌, get_or, arith}
use Rattle.std.proofs.lemmas.List.{get_or_default}
use Rattle.std.proofs.lemmas.List.Edits.{map_over_more}
use Rattle.marked_lines.proofs.places.raise.Goals as goal

pub loop-place-preserved : goal.loop-place-preserved
loop-place-preserved c =
    let place = get_or c.loop-place.places c.loop-place.place-index 0 in
    map_over_more (λ p. p + 1) c.args.places.now c.loop-place.places c.loop-place.place-index place c.loop-place-test.true c.loop-place.invariant
    (get_or_default c.loop-place.places c.loop-place.place-index 0 place (omega arith))
