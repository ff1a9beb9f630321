use Rattle.std.proofs.Common.{◌≡◌, ◌<◌, ◌+◌, List, [], ◌∷◌, ◌++◌, arith, refl, sym, ◌∙◌, ap, subst, length, Some}
use Rattle.std.specs.Prelude.{slice_set}
use Rattle.sheet_ops.specs.declared.operation.Entry.{Entry}
use Rattle.sheet_ops.specs.declared.operation.Effect.{Effect}
use Rattle.sheet_ops.proofs.Lengths.{length-operations}
use Rattle.script_run.specs.declared.room.Room.{Room}
use Rattle.script_run.specs.declared.seat.Seat.{Seat}
use Rattle.script_run.specs.Runs.{RunStands}
use Rattle.script_run.specs.World.{World, seat_at, pushed}
use Rattle.script_run.proofs.Fronts.{published_later}
use Rattle.script_run.proofs.Named.{found_again}
use Rattle.script_run.proofs.Standing.{holds, seat_is, may_submit, pushed_run, pushed_world}
use Rattle.script_run.proofs.run.Run.push_one.Goals as goal
use Rattle.script_run.proofs.run.Run.push_one.Goals.{After-index_mut-seat, After-push_reserved-2}

module _ (c : After-index_mut-seat) where
  place_here : c.args.place < length c.self.inside.seats.items
  place_here = subst (λ (w : World). c.args.place < length w.seats) (sym c.self.view_is) c.requires.place

  more_here : c.index_mut-seat.result.now.pushed < length c.index_mut-seat.result.now.made
  more_here =
      let more = subst (λ (w : World). (seat_at w c.args.place).pushed < length (seat_at w c.args.place).made) (sym c.self.view_is) c.requires.more in
      subst (λ (s : Seat). s.pushed < length s.made) (seat_is _ _ _ c.self.invariant.run c.args.place place_here c.index_mut-seat.result.now c.index_mut-seat.ensures.value) more

module _ (c : After-push_reserved-2) where
  history_is : c.push_reserved.new.self.items ≡ c.self.inside.history.items ++ c.in_ok-entry.entry ∷ []
  history_is = c.push_reserved.ensures.items ∙ ap (λ (es : List Entry). es ++ c.in_ok-entry.entry ∷ []) c.in_ok-reserve.ensures.items

  effects_are : c.push_reserved-2.new.self.items ≡ c.self.inside.effects.items ++ c.in_ok-entry.effect ∷ []
  effects_are = c.push_reserved-2.ensures.items ∙ ap (λ (es : List Effect). es ++ c.in_ok-entry.effect ∷ []) c.in_ok-reserve-2.ensures.items

pub hand_in-requires : goal.hand_in-requires
hand_in-requires c =
    let at = (goal.at.hand_in-requires c).After-index_mut-seat in
    may_submit _ _ _ c.self.invariant.run c.args.place (place_here at) c.index_mut-seat.result.now c.index_mut-seat.ensures.value c.site_at-site.result.0 (omega (arith, c.site_at-site.ensures)) (more_here at)

pub overflow_add-seat : goal.overflow_add-seat
overflow_add-seat c =
    let at = (goal.at.overflow_add-seat c).After-index_mut-seat in
    let s = c.index_mut-seat.result.now in
    let kept = holds _ _ _ c.self.invariant.run c.args.place (place_here at) s c.index_mut-seat.ensures.value in
    omega (arith, more_here at, kept.few, length-operations s.made)

pub invariant_of-self-2 : goal.invariant_of-self-2
invariant_of-self-2 c =
    let at = (goal.at.invariant_of-self-2 c).After-index_mut-seat in
    let after = (goal.at.invariant_of-self-2 c).After-push_reserved-2 in
    let s = c.index_mut-seat.result.now in
    let seats : List Seat = slice_set c.self.inside.seats.items c.args.place (record s { pushed = s.pushed + 1 }) in
    let room : Room = record { server = c.hand_in.new.server; clients = c.self.inside.clients.items } in
    let published = c.self.inside.published in
    subst (λ (H : List Entry). RunStands (record { size = c.self.inside.size; history = H; published = published.length; seats = seats }) c.push_reserved-2.new.self.items room published c.self.inside.places) (sym (history_is after))
    (subst (λ (es : List Effect). RunStands (record { size = c.self.inside.size; history = c.self.inside.history.items ++ c.in_ok-entry.entry ∷ []; published = published.length; seats = seats }) es room published c.self.inside.places) (sym (effects_are after)) (record {
      run = pushed_run _ _ _ c.self.invariant.run c.args.place (place_here at) s c.index_mut-seat.ensures.value c.in_ok-entry.entry c.in_ok-entry.ensures.next
          c.hand_in.new.server c.in_ok-entry.ensures.counts.0 c.in_ok-entry.ensures.counts.1 (c.in_ok-entry.ensures.represents c.self.inside.history.items c.self.invariant.run.room.server)
          c.in_ok-entry.effect (c.in_ok-entry.ensures.effect c.self.inside.history.items c.self.invariant.run.room.server);
      published = published_later c.self.inside.size c.self.inside.history.items (c.in_ok-entry.entry ∷ []) published c.self.invariant.published;
      names = found_again c.self.inside.seats.items c.self.inside.places c.self.invariant.names c.args.place s (record s { pushed = s.pushed + 1 }) c.index_mut-seat.ensures.value refl;
    }))

pub returns-clause-ok : goal.returns-clause-ok
returns-clause-ok c =
    let at = (goal.at.returns-clause-ok c).After-index_mut-seat in
    let after = (goal.at.returns-clause-ok c).After-push_reserved-2 in
    let s = c.index_mut-seat.result.now in
    ap (λ (H : List Entry). record { size = c.self.inside.size; history = H; published = c.self.inside.published.length; seats = slice_set c.self.inside.seats.items c.args.place (record s { pushed = s.pushed + 1 }) }) (history_is after)
    ∙ (pushed_world _ _ _ c.self.invariant.run c.args.place (place_here at) s c.index_mut-seat.ensures.value c.in_ok-entry.entry c.in_ok-entry.ensures.next
    ∙ ap (λ (w : World). pushed w c.args.place (Some 1)) c.self.view_is)
