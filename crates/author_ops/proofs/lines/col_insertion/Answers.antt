use Rattle.std.proofs.Common.{ap, sym, ◌∙◌}
use Rattle.ss_base.specs.declared.types.Size.{Size}
use Rattle.sheet_grid.specs.Values.{placed_in}
use Rattle.author_ops.proofs.Denoting.{count_seen, at_end, before_end}
use Rattle.author_ops.proofs.lines.col_insertion.Goals as goal

pub returns-then-before-visible : goal.returns-then-before-visible
returns-then-before-visible c =
    at_end (placed_in c.args.sheet.now).cols c.args.before c.size.result.cols (c.if-before-visible.true ∙ (ap (λ (s : Size). s.cols) c.visible.ensures.size ∙ count_seen (placed_in c.args.sheet.now).cols)) (ap (λ (s : Size). s.cols) c.size.ensures.size)

pub returns-else-before-visible : goal.returns-else-before-visible
returns-else-before-visible c =
    before_end (placed_in c.args.sheet.now).cols c.args.before c.col_at.result (λ e. c.if-before-visible.false (e ∙ sym (ap (λ (s : Size). s.cols) c.visible.ensures.size ∙ count_seen (placed_in c.args.sheet.now).cols))) c.col_at.ensures
