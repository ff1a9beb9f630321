use Rattle.std.proofs.Common.{arith}
use Rattle.marked_lines.proofs.Permuting.{permute_unmarked}
use Rattle.marked_lines.proofs.places.moves_no_mark.Goals as goal

pub returns : goal.returns
returns c = λ yes.
    let moves = c.moves-from-items.result.now in
    rw (← c.moves-from-items.ensures.value)
    (permute_unmarked moves (rw c.moves-from-items.ensures.value c.moves-from-items.ensures.bijective) c.args.marks.now (rw c.moves-from-items.ensures.value c.requires) (λ k within.
    c.loop-from.invariant k (omega (arith, within, c.loop-from-test.false))))
