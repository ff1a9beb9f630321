use Rattle.std.proofs.Common.{ap, ◌∙◌}
use Rattle.ss_base.specs.declared.types.Size.{Size}
use Rattle.sheet_grid.specs.Values.{placed_in}
use Rattle.author_ops.proofs.Denoting.{count_seen}
use Rattle.author_ops.proofs.axis.visible.Goals as goal

pub returns-in-Rows-clause-value : goal.returns-in-Rows-clause-value
returns-in-Rows-clause-value c = rw c.in-Rows.is (ap (λ (s : Size). s.rows) c.visible-size.ensures.size ∙ count_seen (placed_in c.args.sheet.now).rows)

pub returns-in-Cols-clause-value : goal.returns-in-Cols-clause-value
returns-in-Cols-clause-value c = rw c.in-Cols.is (ap (λ (s : Size). s.cols) c.visible-size.ensures.size ∙ count_seen (placed_in c.args.sheet.now).cols)
