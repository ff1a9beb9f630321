use Rattle.std.proofs.Common.{◌<◌, sym, ◌∙◌, ap, subst, refl, length}
use Rattle.script_run.specs.World.{World, reading}
use Rattle.sheet_text.specs.Values.{range_values_text}
use Rattle.script_run.specs.Transcript.{published_values}
use Rattle.script_run.proofs.Named.{found_again}
use Rattle.script_run.proofs.Standing.{seat_is}
use Rattle.script_run.proofs.Publishes.{formed, run_published, evaluated_stands, evaluated_run, range_printed, read_run, read_world}
use Rattle.script_run.proofs.run.Run.read.Goals as goal
use Rattle.script_run.proofs.run.Run.read.Goals.{After-index_mut-seat}

module _ (c : After-index_mut-seat) where
  place_here : c.place-place.result < length c.self.inside.seats.items
  place_here = subst (λ (w : World). c.place-place.result < length w.seats) (sym c.self.view_is) c.place-place.ensures.within

pub invariant_of-self : goal.invariant_of-self
invariant_of-self c =
    evaluated_run _ _ _ _ _ c.self.invariant c.range_text.new.self c.range_text.ensures.length (c.range_text.ensures.stays _ (formed _ _ _ _ _ c.self.invariant) c.self.invariant.published.is)

pub invariant_of-self-2 : goal.invariant_of-self-2
invariant_of-self-2 c =
    let at = (goal.at.invariant_of-self-2 c).After-index_mut-seat in
    let q = c.range_text.new.self in
    let s = c.index_mut-seat.result.now in
    record {
      run =
          read_run _ _ _ (run_published _ _ _ c.self.invariant.run q.length) c.place-place.result (place_here at) q.length s
          (seat_is _ _ _ c.self.invariant.run c.place-place.result (place_here at) s c.index_mut-seat.ensures.value);
      published = evaluated_stands _ _ _ _ _ c.self.invariant q c.range_text.ensures.length (c.range_text.ensures.stays _ (formed _ _ _ _ _ c.self.invariant) c.self.invariant.published.is);
      names = found_again c.self.inside.seats.items c.self.inside.places c.self.invariant.names c.place-place.result s (record s { read = q.length }) c.index_mut-seat.ensures.value refl;
    }

pub returns-clause-ok : goal.returns-clause-ok
returns-clause-ok c =
    let at = (goal.at.returns-clause-ok c).After-index_mut-seat in
    let s = c.index_mut-seat.result.now in (
      c.in_ok-text.ensures.text _ (formed _ _ _ _ _ c.self.invariant) c.self.invariant.published.is
          ∙ (range_printed _ _ _ _ _ c.self.invariant refl c.args.number c.args.name.now c.args.range.now
          ∙ ap (λ (w : World). range_values_text c.args.number c.args.name.now c.args.range.now w.published (published_values w)) c.self.view_is),
      read_world _ c.place-place.result c.range_text.new.self.length s (seat_is _ _ _ c.self.invariant.run c.place-place.result (place_here at) s c.index_mut-seat.ensures.value) c.range_text.ensures.length
          ∙ (ap (λ (w : World). reading w c.place-place.result) c.self.view_is ∙ ap (reading c.args.self.now) c.place-place.ensures.place),
    )
