use Rattle.std.proofs.Common.{ℕ, List, get_or, arith, ap, ◌∙◌}
use Rattle.std.proofs.lemmas.List.{get_or_default}
use Rattle.std.proofs.lemmas.List.Edits.{map_over_more}
use Rattle.marked_lines.specs.Moves.{after_insertion}
use Rattle.sheet_grid.proofs.InsertedNumbers.{rest_at}
use Rattle.sheet_grid.proofs.numbered.raise.Goals as goal

pub after-requires : goal.after-requires
after-requires c =
    let at = ap (λ (ps : List ℕ). get_or ps c.loop-place.place-index 0) c.loop-place.invariant ∙ rest_at (after_insertion c.args.p) c.args.places.now c.loop-place.place-index 0 c.loop-place-test.true in
    let small = c.requires c.loop-place.place-index 0 c.loop-place-test.true in
    omega (arith, at, small)

pub loop-place-preserved : goal.loop-place-preserved
loop-place-preserved c =
    let place = get_or c.loop-place.places c.loop-place.place-index 0 in
    rw c.after.ensures (map_over_more (after_insertion c.args.p) c.args.places.now c.loop-place.places c.loop-place.place-index place c.loop-place-test.true c.loop-place.invariant
    (get_or_default c.loop-place.places c.loop-place.place-index 0 place (omega arith)))
