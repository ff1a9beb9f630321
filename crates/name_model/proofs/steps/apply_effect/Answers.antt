use Rattle.std.proofs.Common.{ap, ◌∙◌}
use Rattle.std.proofs.lemmas.Result.{on_ok_weaker}
use Rattle.sheet_ops.specs.Placed.{placed_size}
use Rattle.sheet_grid.specs.Values.{placed_in}
use Rattle.name_model.proofs.Sized.{size_on}
use Rattle.name_model.proofs.steps.apply_effect.Goals as goal

pub returns-clause-size : goal.returns-clause-size
returns-clause-size c = on_ok_weaker c.apply.result (λ e. ap placed_size e ∙ size_on (placed_in c.args.sheet.now) c.args.effect.now c.requires.fits) c.apply.ensures.ok
