use Rattle.std.proofs.Common.{◌≡◌, List, true, All, sym, subst}
use Rattle.std.specs.Prelude.{OnOk}
use Rattle.value_snap.specs.Lists.{is_ended}
use Rattle.value_snap.specs.Stores.{PublisherOf}
use Rattle.live_close.specs.Parts.{AllOver, AllKnow}
use Rattle.live_close.proofs.Settled.{all_closed, over_closed}
use Rattle.live_close.proofs.closing.settle.Goals as goal

pub parts_of-requires : goal.parts_of-requires
parts_of-requires g c =
    let qs = c.args.publishers.now in
    let are = c.in_ok-close_all.ensures in
    record {
      stores = subst (AllOver c.args.ends) (sym are) (over_closed c.args.ends qs c.requires.stores);
      closed = subst (λ (ps : List PublisherOf). All (λ (q : PublisherOf). is_ended q.list ≡ true) ps) (sym are) (all_closed qs);
    }

pub returns-clause-known : goal.returns-clause-known
returns-clause-known g c = subst (λ (qs : List PublisherOf). OnOk c.parts_of.result (AllKnow c.args.ends qs)) c.in_ok-close_all.ensures c.parts_of.ensures.known
