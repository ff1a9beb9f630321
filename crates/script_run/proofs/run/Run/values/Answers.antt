use Rattle.std.proofs.Common.{◌∙◌, ap, refl}
use Rattle.script_run.specs.World.{World}
use Rattle.sheet_text.specs.Values.{all_text}
use Rattle.script_run.specs.Transcript.{published_values}
use Rattle.script_run.proofs.Outcomes.{if_ok}
use Rattle.script_run.proofs.Publishes.{formed, evaluated_run, all_printed}
use Rattle.script_run.proofs.run.Run.values.Goals as goal

pub returns-clause-text : goal.returns-clause-text
returns-clause-text c =
    if_ok c.all_text.result (λ t e. e ∙ (all_printed _ _ _ _ _ c.self.invariant refl ∙ ap (λ (w : World). all_text w.published (published_values w)) c.self.view_is))
    (c.all_text.ensures.text _ (formed _ _ _ _ _ c.self.invariant) c.self.invariant.published.is)

pub returns-clause-same : goal.returns-clause-same
returns-clause-same c =
    (λ i. record { size = c.self.inside.size; history = c.self.inside.history.items; published = c.all_text.ensures.length i; seats = c.self.inside.seats.items })
    ∙ c.self.view_is

pub invariant_of-self : goal.invariant_of-self
invariant_of-self c =
    evaluated_run _ _ _ _ _ c.self.invariant c.all_text.new.self c.all_text.ensures.length (c.all_text.ensures.stays _ (formed _ _ _ _ _ c.self.invariant) c.self.invariant.published.is)
