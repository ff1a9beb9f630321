use Rattle.std.proofs.Common.{◌+◌, ◌*◌, ◌∙◌, ap, sym, arith}
use Rattle.sheet_value.specs.Tables.{value_at}
use Rattle.generated_run.specs.declared.tally.Tally.{Tally}
use Rattle.generated_run.specs.Tallies.{tallied}
use Rattle.generated_run.proofs.Counting.{fold_more, within_more}
use Rattle.generated_run.proofs.tally.with_row.Goals as goal

pub loop-col-preserved : goal.loop-col-preserved
loop-col-preserved c = (
  (c.with_cell-found.ensures.value
      ∙ (ap (λ (t : Tally). tallied t (value_at c.args.grid.now c.args.row c.loop-col.col)) c.loop-col.invariant.0 ∙ sym (fold_more c.args.grid.now c.args.tally c.args.row c.loop-col.col))),
  within_more (16000 * c.args.row + c.loop-col.col + 1) (16000 * c.args.row + (c.loop-col.col + 1)) c.with_cell-found.result (omega arith)
      (c.with_cell-found.ensures.within (16000 * c.args.row + c.loop-col.col) c.loop-col.invariant.1),
)
