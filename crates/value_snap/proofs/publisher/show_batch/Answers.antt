use Rattle.std.proofs.Common.{◌≡◌, ◌++◌, ◌∷◌, [], ap, sym, ◌∙◌}
use Rattle.value_snap.specs.declared.published.Published.TheVariants.{Full}
use Rattle.value_snap.specs.Showing.{ops_of}
use Rattle.value_snap.proofs.Fronts.{upto_full}
use Rattle.value_snap.proofs.Replays.{batch_store, batch_size, batch_replay}
use Rattle.value_snap.proofs.publisher.show_batch.Goals as goal

pub add-requires-clause-upto : goal.add-requires-clause-upto
add-requires-clause-upto g c = upto_full 0 c.args.front.now.list c.args.batch.now

pub show-writer-requires-clause-store : goal.show-writer-requires-clause-store
show-writer-requires-clause-store g c =
    let s = c.append_batch.new.writer.desk.shown.value in
    let front : s.front ≡ c.args.front.now = ap (λ d. d.shown.value.front) c.append_batch.ensures.desk ∙ c.requires.shown in
    batch_store s _ c.again.result c.args.batch.now c.in-Ok.ensures.ok (ap (λ f. f.book) c.again.ensures.same ∙ (c.in-Some.ensures.0 ∙ ap (λ f. f.book) (sym front)))

pub show-writer-requires-clause-replay : goal.show-writer-requires-clause-replay
show-writer-requires-clause-replay g c =
    let s = c.append_batch.new.writer.desk.shown.value in
    let front : s.front ≡ c.args.front.now = ap (λ d. d.shown.value.front) c.append_batch.ensures.desk ∙ c.requires.shown in
    batch_replay s _ c.again.result c.args.batch.now c.in-Ok.ensures.ok (ap (λ f. f.list) c.again.ensures.same ∙ (c.in-Some.ensures.1 ∙ ap (λ f. f.list ++ Full c.args.batch.now ∷ []) (sym front)))

pub returns-in-Ok-shown-clause-size : goal.returns-in-Ok-shown-clause-size
returns-in-Ok-shown-clause-size g c =
    let s = c.append_batch.new.writer.desk.shown.value in
    let ok = rw c.in-Ok-shown.is at c.show-writer.ensures.ok in
    ap (λ t. t.size) ok.0 ∙ (batch_size s _ c.again.result c.args.batch.now c.in-Ok.ensures.ok ∙ ap (λ d. d.shown.value.size) c.append_batch.ensures.desk)
