use Rattle.std.proofs.Common.{refl, sym, ◌∙◌}
use Rattle.recalc_loop.proofs.Openings.{opened_values}
use Rattle.recalc_loop.proofs.evaluation.Evaluation.new.Goals as goal

pub returns : goal.returns
returns c = record {
  count = refl;
  sheet = sym c.in_ok-sheet.ensures.placed;
  values = c.in_ok-values.ensures ∙ opened_values c.args.size;
}
