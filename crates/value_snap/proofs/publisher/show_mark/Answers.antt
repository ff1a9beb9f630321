use Rattle.std.proofs.Common.{◌≡◌, ◌++◌, ◌∷◌, [], ap, sym, ◌∙◌}
use Rattle.value_snap.specs.declared.published.Published.TheVariants.{End}
use Rattle.value_snap.specs.declared.shown.Op.TheVariants.{Mark}
use Rattle.value_snap.proofs.Fronts.{upto_end}
use Rattle.value_snap.proofs.Replays.{mark_replay}
use Rattle.value_snap.proofs.publisher.show_mark.Goals as goal

pub add-requires-clause-upto : goal.add-requires-clause-upto
add-requires-clause-upto g c = c.upto.ensures.upto ∙ upto_end 0 c.args.front.now.list

pub show-writer-requires-clause-replay : goal.show-writer-requires-clause-replay
show-writer-requires-clause-replay g c =
    let s = c.append.new.self.desk.shown.value in
    let front : s.front ≡ c.args.front.now = ap (λ d. d.shown.value.front) c.in-Ok.ensures.desk ∙ c.requires.shown in
    mark_replay s _ c.again.result (c.in-Ok.ensures.pending ∙ ap (λ l. l ++ Mark c.again.result ∷ []) c.requires.pending) (ap (λ f. f.list) c.again.ensures.same ∙ (c.in-Some.ensures.1 ∙ ap (λ f. f.list ++ End ∷ []) (sym front)))
