use Rattle.std.proofs.Common.{◌≡◌, ap, sym, ◌∙◌, Ok, Err}
use Rattle.std.specs.Prelude.{Result}
use Rattle.std.proofs.lemmas.Result.{IfOk-weaker, IfErr-weaker}
use Rattle.sheet_grid.specs.Values.{placed_in}
use Rattle.sheet_ops.specs.Placed.{PlacedSheet}
use Rattle.author_ops.specs.Placed.{copy_by}
use Rattle.author_ops.proofs.Shifted.{copy_same, copy-fits}
use Rattle.author_ops.proofs.copies.copy.Goals as goal

pub returns-clause-intent : goal.returns-clause-intent
returns-clause-intent c =
    IfOk-weaker c.copied.result _ _ (λ op h X e. copy_same X c.args.from.now c.args.to.now ∙ (ap (λ (P : PlacedSheet). copy_by P c.args.from.now c.args.to.now) e ∙ h)) c.copied.ensures.intent

pub returns-clause-cause : goal.returns-clause-cause
returns-clause-cause c =
    IfErr-weaker c.copied.result _ _ (λ x h other X e. copy_same X c.args.from.now c.args.to.now ∙ (ap (λ (P : PlacedSheet). copy_by P c.args.from.now c.args.to.now) e ∙ h other)) c.copied.ensures.cause

pub returns-clause-fits : goal.returns-clause-fits
returns-clause-fits c =
    IfOk-weaker c.copied.result _ _ (λ op h. copy-fits (placed_in c.args.sheet.now) c.args.from.now c.args.to.now c.requires.rows c.requires.cols op h) c.copied.ensures.intent
