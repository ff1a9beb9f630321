use Rattle.std.proofs.Common.{◌≡◌, ℕ, suc, ◌+◌, refl, ap, sym, ◌∙◌, subst, arith}
use Rattle.value_snap.specs.declared.rule.Store.{Store}
use Rattle.value_snap.specs.Stores.{PublisherOf}
use Rattle.live_threads.specs.Threads.{IsNewPublisher, stores_of}
use Rattle.live_threads.proofs.Lists.{all_there}
use Rattle.live_threads.proofs.Openings.{store_there}
use Rattle.live_threads.proofs.Starts.{may_begin, is_ran}
use Rattle.live_threads.proofs.threads.run_threads.Goals as goal

pub new-requires-clause-stores : goal.new-requires-clause-stores
new-requires-clause-stores g c = λ i q at.
    let next : suc i ≡ i + 1 = omega arith in
    store_there c.args.opening.publishers i q at ∙ (ap (stores_of c.args.opening.publishers) next ∙ ap (λ (f : ℕ → Store). f (i + 1)) (sym c.requires.room.3))

pub new-requires-clause-sized : goal.new-requires-clause-sized
new-requires-clause-sized g c = λ i q at. (all_there (IsNewPublisher c.args.script.now.size) c.args.opening.publishers c.requires.opening.begun.publishers i q at).sized

pub run_beside-ends-requires-clause-may : goal.run_beside-ends-requires-clause-may
run_beside-ends-requires-clause-may g c κs within =
    may_begin c.args.script.now c.args.opening g.J.Workplace.book g.J.Workplace.size g.J.Workplace.sites g.J.Workplace.stores c.requires.script c.requires.opening c.requires.room.0 c.requires.room.1 c.requires.room.2 c.requires.room.3

pub returns-clause-ran : goal.returns-clause-ran
returns-clause-ran g c =
    is_ran c.args.script.now c.args.opening g.J.Workplace.book g.J.Workplace.size g.J.Workplace.sites g.J.Workplace.stores c.run_beside-ends.result c.finish.result c.requires.opening c.requires.room.0 c.requires.room.1 c.requires.room.2 c.requires.room.3 c.run_beside-ends.ensures c.finish.ensures
