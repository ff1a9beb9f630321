use Rattle.std.proofs.Common.{◌≡◌, ◌<◌, ◌+◌, ◌-◌, arith, sym, ◌∙◌, ap, length, None, Some, ℕ}
use Rattle.script_run.specs.World.{World, seat_at, pushed, at_each}
use Rattle.script_run.proofs.Outcomes.{whenever_err}
use Rattle.script_run.proofs.Worlds.{at_each-more, length-each, length-set}
use Rattle.script_run.proofs.run.Run.push_all.Goals as goal

same_count : (v : World) (p : ℕ) → length (pushed v p None).seats ≡ length v.seats
same_count v p = length-set v.seats p (let s = seat_at v p in let count = length s.made - s.pushed in record s { pushed = s.pushed + count })

pub push-requires : goal.push-requires
push-requires c =
    let same = length-each (λ v p. pushed v p None) (λ v p. same_count v p) 0 c.loop-place.place c.args.self.now in
    omega (arith, c.loop-place-test.true, c.sites-place-end.ensures.sites, same, ap (λ (w : World). length w.seats) c.loop-place.invariant)

pub loop-place-preserved : goal.loop-place-preserved
loop-place-preserved c =
    let e : 0 + c.loop-place.place ≡ c.loop-place.place = omega arith in
    c.in_ok-push.ensures.ok
    ∙ (ap (λ (w : World). pushed w c.loop-place.place None) c.loop-place.invariant
    ∙ (ap (λ p. pushed (at_each (λ v p. pushed v p None) 0 c.loop-place.place c.args.self.now) p None) (sym e)
    ∙ at_each-more (λ v p. pushed v p None) 0 c.loop-place.place c.args.self.now))

pub returns-in_err-push-clause-err : goal.returns-in_err-push-clause-err
returns-in_err-push-clause-err c =
    let (count, is) = c.in_err-push.ensures.err in
    let within : c.loop-place.place < length c.args.self.now.seats = omega (arith, c.loop-place-test.true, c.sites-place-end.ensures.sites) in
    whenever_err c.from_residual.result (c.loop-place.place, count, within, is ∙ ap (λ (w : World). pushed w c.loop-place.place (Some count)) c.loop-place.invariant)
