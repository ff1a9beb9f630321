use Rattle.std.proofs.Common.{◌≡◌, ◌++◌, ◌∷◌, [], length, ap, ◌∙◌, arith}
use Rattle.std.proofs.lemmas.List.FromFn.{length-map-range_with_len}
use Rattle.script_run.specs.World.{World, new_seat}
use Rattle.generated_run.specs.Turns.{site_name}
use Rattle.generated_run.specs.Runs.{opened_with}
use Rattle.generated_run.proofs.Sites.{opened_more}
use Rattle.generated_run.proofs.load.opened.Goals as goal

pub loop-place-preserved : goal.loop-place-preserved
loop-place-preserved c =
    let before = c.loop-place.invariant in
    c.in_ok-add_site.ensures.ok
    ∙ ((λ i. record (before i) { seats = (before i).seats ++ new_seat (c.in_ok-name.ensures i) ∷ [] })
    ∙ opened_more c.loop-place.place)

pub add_site-requires-clause-few : goal.add_site-requires-clause-few
add_site-requires-clause-few c =
    let many = ap (λ (w : World). length w.seats) c.loop-place.invariant in
    let places = length-map-range_with_len (λ p. new_seat (site_name p)) 0 c.loop-place.place in
    omega arith

pub add_site-requires-clause-new : goal.add_site-requires-clause-new
add_site-requires-clause-new c = ap (λ (w : World). w.history) c.loop-place.invariant

pub returns : goal.returns
returns c =
    let end : c.loop-place.place ≡ 8 = omega arith in
    c.loop-place.invariant ∙ ap opened_with end
