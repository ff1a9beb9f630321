use Rattle.std.proofs.Common.{◌≡◌, ◌<◌, ◌+◌, ◌-◌, arith, sym, ◌∙◌, ap, length, None, Some, ℕ}
use Rattle.script_run.specs.World.{World, seat_at, pulled, at_each}
use Rattle.script_run.proofs.Outcomes.{whenever_err}
use Rattle.script_run.proofs.Worlds.{at_each-more, length-each, length-set}
use Rattle.script_run.proofs.run.Run.pull_all.Goals as goal

same_count : (v : World) (p : ℕ) → length (pulled v p None).seats ≡ length v.seats
same_count v p = length-set v.seats p (let s = seat_at v p in record s { taken = s.taken + (length v.history - s.taken) })

pub pull-requires : goal.pull-requires
pull-requires c =
    let same = length-each (λ v p. pulled v p None) (λ v p. same_count v p) 0 c.loop-place.place c.args.self.now in
    omega (arith, c.loop-place-test.true, c.sites-place-end.ensures.sites, same, ap (λ (w : World). length w.seats) c.loop-place.invariant)

pub loop-place-preserved : goal.loop-place-preserved
loop-place-preserved c =
    let e : 0 + c.loop-place.place ≡ c.loop-place.place = omega arith in
    c.in_ok-pull.ensures.ok
    ∙ (ap (λ (w : World). pulled w c.loop-place.place None) c.loop-place.invariant
    ∙ (ap (λ p. pulled (at_each (λ v p. pulled v p None) 0 c.loop-place.place c.args.self.now) p None) (sym e)
    ∙ at_each-more (λ v p. pulled v p None) 0 c.loop-place.place c.args.self.now))

pub returns-in_err-pull-clause-err : goal.returns-in_err-pull-clause-err
returns-in_err-pull-clause-err c =
    let (count, is) = c.in_err-pull.ensures.err in
    let within : c.loop-place.place < length c.args.self.now.seats = omega (arith, c.loop-place-test.true, c.sites-place-end.ensures.sites) in
    whenever_err c.from_residual.result (c.loop-place.place, count, within, is ∙ ap (λ (w : World). pulled w c.loop-place.place (Some count)) c.loop-place.invariant)
