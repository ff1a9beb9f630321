use Rattle.std.proofs.Common.{◌≡◌, true, List, subst, sym, ◌∙◌, ap}
use Rattle.value_snap.specs.declared.published.Published.{Published}
use Rattle.value_snap.specs.Lists.{is_ended}
use Rattle.value_snap.proofs.Fronts.{ended_is_whole}
use Rattle.value_snap.proofs.reader.Reader.learn.Goals as goal

pub returns-else-begins-clause-ended : goal.returns-else-begins-clause-ended
returns-else-begins-clause-ended c ended =
    let told : c.told.inside.front.list ≡ c.args.told.list = ap (λ t. t.list) c.told.view_is in
    let ends : is_ended c.told.inside.front.list ≡ true = ap (λ (l : List Published). is_ended l) told ∙ ended in
    ap (λ r. r.known) (sym c.self.view_is) ∙ (sym (ended_is_whole 0 c.told.inside.front.list c.self.inside.front.list c.self.invariant.0 (c.begins.ensures.no c.if-begins.false) ends) ∙ told)
