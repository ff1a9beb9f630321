use Rattle.std.proofs.Common.{ap, ◌∙◌}
use Rattle.value_snap.specs.Lists.{is_ended}
use Rattle.value_snap.proofs.Fronts.{ended_end}
use Rattle.value_snap.proofs.publisher.Publisher.close.Goals as goal

pub returns-in-Ok-clause-ended : goal.returns-in-Ok-clause-ended
returns-in-Ok-clause-ended g c =
    let ok = rw c.in-Ok.is at c.show_mark-writer.ensures.ok in
    ap (λ f. is_ended f.list) c.again.ensures.same ∙ ap is_ended ok.1 ∙ ended_end c.self.inside.front.list
