use Rattle.script_run.proofs.Outcomes.{if_ok}
use Rattle.script_run.proofs.published.PublishedSheet.evaluated.Goals as goal

pub returns : goal.returns
returns c X formed is = if_ok c.evaluated.result (λ g e. e X formed is.sheet) c.evaluated.ensures
