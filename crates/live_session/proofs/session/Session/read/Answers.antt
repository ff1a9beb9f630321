use Rattle.std.proofs.Common.{ℕ, ◌≤◌, sym, subst}
use Rattle.value_snap.specs.Lists.{upto_from}
use Rattle.value_snap.proofs.Fronts.{upto_grows}
use Rattle.live_session.specs.Sessions.{SessionOf}
use Rattle.live_session.proofs.session.Session.read.Goals as goal

pub returns-in-Err-OutOfSheet-clause-outside_later : goal.returns-in-Err-OutOfSheet-clause-outside_later
returns-in-Err-OutOfSheet-clause-outside_later c outside =
    let old = c.self.inside.reader.known in
    let new = c.read-read.new.self.known in
    subst (λ (z : SessionOf). upto_from 0 z.reader.known ≤ c.length-self-inside.result) c.self.view_is
    (subst (λ (n : ℕ). upto_from 0 old ≤ n) (sym c.length-self-inside.ensures) (upto_grows old new c.read-read.ensures.kept c.read-read.ensures.ordered))
