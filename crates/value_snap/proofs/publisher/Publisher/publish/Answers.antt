use Rattle.std.proofs.Common.{ap, sym, ◌∙◌}
use Rattle.value_snap.specs.Lists.{is_ended, upto_from}
use Rattle.value_snap.proofs.Fronts.{upto_full, unended_full}
use Rattle.value_snap.proofs.publisher.Publisher.publish.Goals as goal

pub returns-in-Ok-clause-length : goal.returns-in-Ok-clause-length
returns-in-Ok-clause-length g c =
    let ok = rw c.in-Ok.is at c.show_batch-writer.ensures.ok in
    ap (upto_from 0) ok.1 ∙ sym (upto_full 0 c.self.inside.front.list c.args.batch.now)

pub returns-in-Ok-clause-unclosed : goal.returns-in-Ok-clause-unclosed
returns-in-Ok-clause-unclosed g c =
    let ok = rw c.in-Ok.is at c.show_batch-writer.ensures.ok in
    ap is_ended ok.1 ∙ unended_full c.self.inside.front.list c.args.batch.now
