use Rattle.std.proofs.Common.{◌≡◌, ◌<◌, ◌+◌, refl, suc, List, arith, sym, subst, length}
use Rattle.ss_base.specs.Lists.{IsPrefixOf}
use Rattle.sheet_ops.specs.declared.operation.Entry.{Entry}
use Rattle.sheet_ops.specs.declared.operation.Effect.{Effect}
use Rattle.sheet_ops.specs.History.{own_entries}
use Rattle.sheet_ops.specs.Represents.{ClientRepresents}
use Rattle.script_run.specs.declared.seat.Seat.{Seat}
use Rattle.script_run.specs.World.{World, seat_at}
use Rattle.script_run.specs.Deliveries.{MayPull}
use Rattle.script_run.proofs.Named.{found_again}
use Rattle.script_run.proofs.Standing.{short, seat_is, front, stands, may_take, took}
use Rattle.script_run.proofs.run.Run.pull_one.Goals as goal
use Rattle.script_run.proofs.run.Run.pull_one.Goals.{After-index_mut-seat}

module _ (c : After-index_mut-seat) where
  place_here : c.args.place < length c.self.inside.seats.items
  place_here = subst (λ (w : World). c.args.place < length w.seats) (sym c.self.view_is) c.requires.place

  more_here : c.index_mut-seat.result.now.taken < length c.self.inside.history.items
  more_here =
      let more = subst (λ (w : World). (seat_at w c.args.place).taken < length w.history) (sym c.self.view_is) c.requires.more in
      subst (λ (s : Seat). s.taken < length c.self.inside.history.items) (seat_is _ _ _ c.self.invariant.run c.args.place place_here c.index_mut-seat.result.now c.index_mut-seat.ensures.value) more

  site_here : c.site_at-site.result.0 ≡ suc c.args.place
  site_here = omega (arith, c.site_at-site.ensures)

pub deliver-requires : goal.deliver-requires
deliver-requires c =
    let at = (goal.at.deliver-requires c).After-index_mut-seat in
    subst (λ (H : List Entry). MayPull c.index_mut-client.result.now c.site_at-site.result.0 H c.as_slice-effects.result.now) (sym c.as_slice-history.ensures.value)
    (subst (λ (es : List Effect). MayPull c.index_mut-client.result.now c.site_at-site.result.0 c.self.inside.history.items es) (sym c.as_slice-effects.ensures.value)
    (may_take _ _ _ c.self.invariant.run c.args.place (place_here at) c.index_mut-seat.result.now c.index_mut-seat.ensures.value c.index_mut-client.result.now c.index_mut-client.ensures.value
    c.site_at-site.result.0 (site_here at) (more_here at)))

pub overflow_add-seat : goal.overflow_add-seat
overflow_add-seat c =
    let at = (goal.at.overflow_add-seat c).After-index_mut-seat in
    omega (arith, more_here at, short _ _ _ c.self.invariant.run)

pub invariant_of-self-2 : goal.invariant_of-self-2
invariant_of-self-2 c =
    let at = (goal.at.invariant_of-self-2 c).After-index_mut-seat in
    let s = c.index_mut-seat.result.now in
    let k = c.index_mut-client.result.now in
    let known = stands _ _ _ c.self.invariant.run c.args.place (place_here at) s c.index_mut-seat.ensures.value k c.index_mut-client.ensures.value in
    let first = subst (λ n. IsPrefixOf (own_entries n c.self.inside.history.items) s.made) (sym (site_here at)) (front _ _ _ c.self.invariant.run c.args.place (place_here at) s c.index_mut-seat.ensures.value) in
    let represents =
    subst (λ (H : List Entry). ClientRepresents k H s.made → IsPrefixOf (own_entries c.site_at-site.result.0 H) s.made → ClientRepresents c.deliver.new.client H s.made) c.as_slice-history.ensures.value
    (c.in_ok-deliver.ensures.represents s.made) in
    record {
      run = took _ _ _ c.self.invariant.run c.args.place (place_here at) s c.index_mut-seat.ensures.value k c.index_mut-client.ensures.value
          c.deliver.new.client c.in_ok-deliver.ensures.counts.0 c.in_ok-deliver.ensures.counts.1 c.in_ok-deliver.ensures.counts.2 (represents known.represents first) (more_here at);
      published = c.self.invariant.published;
      names = found_again c.self.inside.seats.items c.self.inside.places c.self.invariant.names c.args.place s (record s { taken = s.taken + 1 }) c.index_mut-seat.ensures.value refl;
    }
