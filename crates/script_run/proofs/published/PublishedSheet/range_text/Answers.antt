use Rattle.std.proofs.Common.{◌∙◌}
use Rattle.sheet_text.specs.Values.{range_values_text}
use Rattle.script_run.proofs.Outcomes.{if_ok}
use Rattle.script_run.proofs.published.PublishedSheet.range_text.Goals as goal

pub returns-clause-text : goal.returns-clause-text
returns-clause-text c X formed is =
    let table = (c.evaluate.ensures.stays X formed is).values c.in_ok-evaluate.ensures.current in
    if_ok c.range_text.result (λ t e. e ∙ (λ i. range_values_text c.args.number c.args.name.now c.args.range.now (c.evaluate.ensures.length i) (table i))) c.range_text.ensures
