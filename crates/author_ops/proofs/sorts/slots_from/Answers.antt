use Rattle.std.proofs.Common.{◌≡◌, ◌∷◌, [], ◌++◌, ℕ, List, ap, sym, ◌∙◌, arith}
use Rattle.ss_base.specs.declared.types.Size.{Size}
use Rattle.marked_lines.specs.Marks.{visible_places}
use Rattle.sheet_grid.specs.Values.{placed_in}
use Rattle.author_ops.proofs.Denoting.{count_seen}
use Rattle.author_ops.proofs.Runs.{run_more}
use Rattle.author_ops.proofs.sorts.slots_from.Goals as goal

pub overflow_add-first : goal.overflow_add-first
overflow_add-first c =
    let seen = ap (λ (s : Size). s.rows) c.visible-seen.ensures.size ∙ count_seen (placed_in c.args.sheet.now).rows in
    omega (arith, c.requires, c.loop-k-test.true, c.visible-seen.ensures.rows, seen)

pub loop-k-preserved : goal.loop-k-preserved
loop-k-preserved c =
    c.in_ok-push.ensures.items ∙ (ap (λ (xs : List ℕ). xs ++ c.place_of.result ∷ []) c.loop-k.invariant
    ∙ sym (run_more c.args.first c.loop-k.k (visible_places (placed_in c.args.sheet.now).rows) c.place_of.result c.place_of.ensures))
