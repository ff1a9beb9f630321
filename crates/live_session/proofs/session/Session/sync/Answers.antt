use Rattle.std.proofs.Common.{◌≡◌, ℕ, ◌≤◌, List, [], ◌++◌, length, ap, sym, ◌∙◌, subst, arith}
use Rattle.std.specs.Prelude.{unwrap_or}
use Rattle.value_snap.specs.Lists.{upto_from}
use Rattle.value_snap.specs.Stores.{ReaderOf}
use Rattle.value_snap.proofs.Fronts.{upto_grows}
use Rattle.live_session.specs.Sessions.{SessionOf, entries_by, no_pass}
use Rattle.turn_book.specs.Passes.{made_in}
use Rattle.live_session.proofs.Working.{has_pass, few_own, few_wait, none_left}
use Rattle.live_session.proofs.session.Session.sync.Goals as goal

pub returns-clause-all : goal.returns-clause-all
returns-clause-all g c =
    let s = c.self.inside in
    let old = c.args.self.now in
    let new = c.push.new.self in
    let here = has_pass s.site s.client s.pass s.seen s.unpushed.items c.self.invariant in
    let own : length (made_in new.pass ++ new.unpushed) ≤ 1000 =
    subst (λ (z : SessionOf). length (made_in z.pass ++ z.unpushed) ≤ 1000) c.self.view_is (few_own s.client (unwrap_or s.pass no_pass) (entries_by s.site s.unpushed.items) here.stands) in
    let few : length old.unpushed ≤ 1000 = few_wait (made_in old.pass) old.unpushed (made_in new.pass ++ new.unpushed) c.in_ok-push.ensures.own own in
    ap (λ (z : SessionOf). z.unpushed) c.self.view_is
    ∙ none_left new.unpushed (length old.unpushed) c.in_ok-push.field-0 4294967295 c.in_ok-push.ensures.count c.in_ok-push.ensures.all (omega (arith, few))

pub returns-clause-later : goal.returns-clause-later
returns-clause-later g c =
    let told = c.in_ok-told.told.list in
    let known = c.learn.new.self.known in
    subst (λ (n : ℕ). n ≤ upto_from 0 known) (sym c.length-length.ensures.length) (upto_grows told known c.learn.ensures.learnt c.learn.ensures.ordered)

pub returns-clause-rises : goal.returns-clause-rises
returns-clause-rises g c =
    let old = c.self.inside.reader in
    let known = c.learn.new.self.known in
    let same : old ≡ c.args.self.now.reader = ap (λ (z : SessionOf). z.reader) c.self.view_is ∙ ap (λ (z : SessionOf). z.reader) c.in_ok-push.ensures.same in
    subst (λ (r : ReaderOf). upto_from 0 r.known ≤ upto_from 0 known) same (upto_grows old.known known c.learn.ensures.kept c.learn.ensures.ordered)
