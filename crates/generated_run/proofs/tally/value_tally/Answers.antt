use Rattle.std.proofs.Common.{◌≡◌, ℕ, ◌+◌, ◌*◌, ◌∙◌, fold, ap, sym, arith}
use Rattle.std.specs.List.{range_with_len, flat_map}
use Rattle.ss_base.specs.declared.types.Size.{Size}
use Rattle.generated_run.specs.declared.tally.Tally.{Tally}
use Rattle.generated_run.specs.Tallies.{tallied, row_values, all_values, empty_tally}
use Rattle.generated_run.proofs.Counting.{rows_more, within_more, counted}
use Rattle.generated_run.proofs.tally.value_tally.Goals as goal

pub loop-row-preserved : goal.loop-row-preserved
loop-row-preserved c = (
  (c.with_row-found.ensures.values
      ∙ (ap (λ (t : Tally). fold tallied t (row_values c.args.grid.now c.loop-row.row)) c.loop-row.invariant.0 ∙ sym (rows_more c.args.grid.now c.loop-row.row))),
  within_more (16000 * c.loop-row.row + 16000) (16000 * (c.loop-row.row + 1)) c.with_row-found.result (omega arith) c.with_row-found.ensures.within,
)

pub returns : goal.returns
returns c =
    let all = ap (λ (s : Size). s.rows) c.size-row-end.ensures.size in
    let end : c.loop-row.row ≡ c.args.grid.now.size.rows = omega arith in
    c.loop-row.invariant.0
    ∙ (ap (λ (n : ℕ). fold tallied empty_tally (flat_map (row_values c.args.grid.now) (range_with_len 0 n))) end ∙ counted (all_values c.args.grid.now))
