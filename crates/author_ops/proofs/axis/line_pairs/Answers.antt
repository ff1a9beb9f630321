use Rattle.std.proofs.Common.{◌≡◌, ◌∷◌, [], ◌++◌, ℕ, List, ap, sym, ◌∙◌, arith}
use Rattle.sheet_grid.specs.Values.{placed_in}
use Rattle.author_ops.specs.Placed.{marks_on}
use Rattle.author_ops.proofs.Runs.{pairs_more}
use Rattle.author_ops.proofs.axis.line_pairs.Goals as goal

pub loop-k-preserved : goal.loop-k-preserved
loop-k-preserved c =
    let from = c.requires.from in
    let to = c.requires.to in
    c.in_ok-push.ensures.items ∙ (ap (λ (xs : List (ℕ × ℕ)). xs ++ (c.place_of-source.result, c.place_of-target.result) ∷ []) c.loop-k.invariant
    ∙ sym (pairs_more (marks_on (placed_in c.args.sheet.now) c.args.axis) c.args.from c.args.to c.loop-k.k c.place_of-source.result c.place_of-target.result (omega (arith, from, c.loop-k-test.true)) (omega (arith, to, c.loop-k-test.true)) c.place_of-source.ensures c.place_of-target.ensures))
