use Rattle.std.proofs.Common.{◌∙◌, ap, refl}
use Rattle.script_run.specs.World.{World}
use Rattle.script_run.specs.Transcript.{published_values}
use Rattle.script_run.proofs.Outcomes.{if_ok}
use Rattle.script_run.proofs.Publishes.{formed, values_are}
use Rattle.script_run.proofs.run.Run.evaluated.Goals as goal

pub returns : goal.returns
returns c =
    if_ok c.evaluated.result (λ g e. e ∙ (values_are _ _ _ _ _ c.self.invariant refl ∙ ap (λ (w : World). published_values w) c.self.view_is))
    (c.evaluated.ensures _ (formed _ _ _ _ _ c.self.invariant) c.self.invariant.published.is)
