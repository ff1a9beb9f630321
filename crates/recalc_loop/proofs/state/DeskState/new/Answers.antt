use Rattle.std.proofs.Common.{List, false, sym, subst}
use Rattle.ss_base.specs.declared.types.Size.{Size}
use Rattle.value_snap.specs.Stores.{PublisherOf}
use Rattle.recalc_loop.specs.Desks.{IsDesk, IsCurrent}
use Rattle.turn_book.specs.Passes.{items_in}
use Rattle.recalc_loop.proofs.Turns.{desk_first, current_first}
use Rattle.recalc_loop.proofs.state.DeskState.new.Goals as goal

pub invariant_of-result : goal.invariant_of-result
invariant_of-result g c =
    let book = g.J.Workplace.book in
    let sites = g.J.Workplace.sites in
    let stores = g.J.Workplace.stores in
    let p = c.args.pass in
    let qs = c.args.publishers in
    let first : IsDesk book c.args.size sites stores p qs false =
    desk_first book c.args.size sites stores p qs c.requires.unseen c.requires.unpublished c.requires.book c.requires.number c.requires.opening c.requires.rows c.requires.cols c.requires.few c.requires.count c.requires.stores c.requires.sized c.requires.unspent in
    let now : IsCurrent c.args.size (items_in p.seen) c.in-Ok.evaluation qs = current_first book c.args.size sites stores p qs c.requires.unseen c.requires.unpublished c.in-Ok.evaluation c.in-Ok.ensures in (
      subst (λ (l : List PublisherOf). IsDesk book g.J.Workplace.size sites stores p l false) (sym c.into_vec.ensures) (subst (λ (z : Size). IsDesk book z sites stores p qs false) c.requires.size first),
      (λ same. subst (λ (l : List PublisherOf). IsCurrent g.J.Workplace.size (items_in p.seen) c.in-Ok.evaluation l) (sym c.into_vec.ensures) (subst (λ (z : Size). IsCurrent z (items_in p.seen) c.in-Ok.evaluation qs) c.requires.size now)),
    )
