use Rattle.sheet_ops.specs.History.{sheet_of}
use Rattle.recalc_loop.proofs.evaluation.Evaluation.advance.Goals as goal

pub returns-clause-evaluated : goal.returns-clause-evaluated
returns-clause-evaluated c size sites H next = record {
  count = c.in_ok-take_all.ensures.length size sites H next;
  sheet = c.in_ok-take_all.ensures.sheet size sites H next;
  values = c.in_ok-values.ensures (sheet_of size H) (c.in_ok-take_all.ensures.formed size sites H next) (c.in_ok-take_all.ensures.sheet size sites H next);
}
