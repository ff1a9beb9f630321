use Rattle.std.proofs.Common.{◌≡◌, ℕ, ◌-◌, ◌≤◌, List, ◌++◌, length, Some, Ok, ap, sym, ◌∙◌, subst, arith}
use Rattle.std.specs.Prelude.{min}
use Rattle.sheet_ops.specs.Represents.{ClientState}
use Rattle.jup_client.specs.declared.Down.{Down}
use Rattle.live_session.specs.Pulling.{AreNextMessages, HasTakenMore}
use Rattle.live_session.specs.Sessions.{SessionOf, IsSession, ReplicaStands, entries_by}
use Rattle.turn_book.specs.Passes.{seen_by, made_in}
use Rattle.live_session.proofs.Working.{with_pass, stood, may_take, count, took, none_taken, on_err}
use Rattle.live_session.proofs.session.Session.pull.Goals as goal

pub take_all-requires : goal.take_all-requires
take_all-requires g c =
    let s = c.self.inside in
    let p = c.in-Some.pass in
    let f = c.fetch-pass in
    let own = entries_by s.site s.unpushed.items in
    let is : s.pass ≡ Some p = sym c.take.ensures.value ∙ c.in-Some.is in
    let before : IsSession s.site s.client p s.seen s.unpushed.items = with_pass s.site s.client s.pass p s.seen s.unpushed.items is c.self.invariant in
    let at : c.taken-from.result ≡ s.client.taken = c.taken-from.ensures.taken ∙ ap (λ (z : SessionOf). z.client.taken) (sym c.self.view_is) in
    let was : f.result.2 ≡ Ok c.in_ok-downs.downs = cc in
    let next : AreNextMessages s.client (seen_by f.result.0) (made_in f.result.0 ++ own) c.as_slice.result.now =
    subst (AreNextMessages s.client (seen_by f.result.0) (made_in f.result.0 ++ own)) (sym c.as_slice.ensures) (may_take s.site s.client p f.result.0 s.seen s.unpushed.items c.taken-from.result c.args.most f.result.2 c.in_ok-downs.downs was before f.ensures.same at f.ensures.messages f.ensures.few f.ensures.stands) in
    (seen_by f.result.0, made_in f.result.0 ++ own, next)

pub invariant_of-self-in_err-take_all : goal.invariant_of-self-in_err-take_all
invariant_of-self-in_err-take_all g c =
    let s = c.self.inside in
    let p = c.in-Some.pass in
    let f = c.fetch-pass in
    let own = entries_by s.site s.unpushed.items in
    let is : s.pass ≡ Some p = sym c.take.ensures.value ∙ c.in-Some.is in
    let before : IsSession s.site s.client p s.seen s.unpushed.items = with_pass s.site s.client s.pass p s.seen s.unpushed.items is c.self.invariant in
    let at : c.taken-from.result ≡ s.client.taken = c.taken-from.ensures.taken ∙ ap (λ (z : SessionOf). z.client.taken) (sym c.self.view_is) in
    let was : f.result.2 ≡ Ok c.in_ok-downs.downs = cc in
    let next : AreNextMessages s.client (seen_by f.result.0) (made_in f.result.0 ++ own) c.as_slice.result.now =
    subst (AreNextMessages s.client (seen_by f.result.0) (made_in f.result.0 ++ own)) (sym c.as_slice.ensures) (may_take s.site s.client p f.result.0 s.seen s.unpushed.items c.taken-from.result c.args.most f.result.2 c.in_ok-downs.downs was before f.ensures.same at f.ensures.messages f.ensures.few f.ensures.stands) in
    let some = c.in_err-take_all.ensures.err in
    took s.site s.client p f.result.0 s.seen s.unpushed.items c.taken-from.result c.args.most f.result.2 c.in_ok-downs.downs was before f.ensures.same at f.ensures.messages f.ensures.few f.ensures.stands c.take_all.new.client some.0 f.result.1 f.ensures.length some.2 (c.take_all.ensures.represents (seen_by f.result.0) (made_in f.result.0 ++ own) next)

pub returns-in_err-take_all-clause-err : goal.returns-in_err-take_all-clause-err
returns-in_err-take_all-clause-err g c =
    let s = c.self.inside in
    let p = c.in-Some.pass in
    let f = c.fetch-pass in
    let own = entries_by s.site s.unpushed.items in
    let is : s.pass ≡ Some p = sym c.take.ensures.value ∙ c.in-Some.is in
    let before : IsSession s.site s.client p s.seen s.unpushed.items = with_pass s.site s.client s.pass p s.seen s.unpushed.items is c.self.invariant in
    let at : c.taken-from.result ≡ s.client.taken = c.taken-from.ensures.taken ∙ ap (λ (z : SessionOf). z.client.taken) (sym c.self.view_is) in
    let was : f.result.2 ≡ Ok c.in_ok-downs.downs = cc in
    let many : length c.in_ok-downs.downs ≡ min c.args.most (length (seen_by f.result.0) - s.client.taken) = count s.site s.client p f.result.0 s.seen s.unpushed.items c.taken-from.result c.args.most f.result.2 c.in_ok-downs.downs was before f.ensures.same at f.ensures.messages f.ensures.few f.ensures.stands in
    let some = c.in_err-take_all.ensures.err in
    let slice : length c.as_slice.result.now ≡ length c.in_ok-downs.downs = ap (λ (l : List Down). length l) c.as_slice.ensures in
    let part : some.0 ≤ length c.as_slice.result.now = some.1 in
    let few : some.0 ≤ c.args.most = omega (arith, part, slice, many) in
    on_err c.from_residual-in_err-take_all.result (some.0, few, subst (λ (z : SessionOf). HasTakenMore some.0 z.client c.take_all.new.client) c.self.view_is some.2)

pub overflow_cast-result : goal.overflow_cast-result
overflow_cast-result g c =
    let s = c.self.inside in
    let p = c.in-Some.pass in
    let f = c.fetch-pass in
    let own = entries_by s.site s.unpushed.items in
    let is : s.pass ≡ Some p = sym c.take.ensures.value ∙ c.in-Some.is in
    let before : IsSession s.site s.client p s.seen s.unpushed.items = with_pass s.site s.client s.pass p s.seen s.unpushed.items is c.self.invariant in
    let at : c.taken-from.result ≡ s.client.taken = c.taken-from.ensures.taken ∙ ap (λ (z : SessionOf). z.client.taken) (sym c.self.view_is) in
    let was : f.result.2 ≡ Ok c.in_ok-downs.downs = cc in
    let many : length c.in_ok-downs.downs ≡ min c.args.most (length (seen_by f.result.0) - s.client.taken) = count s.site s.client p f.result.0 s.seen s.unpushed.items c.taken-from.result c.args.most f.result.2 c.in_ok-downs.downs was before f.ensures.same at f.ensures.messages f.ensures.few f.ensures.stands in
    let asked = c.ranges.most.fits in
    let found = c.len.ensures in
    record { fits = omega (arith, asked, found, many) }

pub invariant_of-self-2 : goal.invariant_of-self-2
invariant_of-self-2 g c =
    let s = c.self.inside in
    let p = c.in-Some.pass in
    let f = c.fetch-pass in
    let own = entries_by s.site s.unpushed.items in
    let is : s.pass ≡ Some p = sym c.take.ensures.value ∙ c.in-Some.is in
    let before : IsSession s.site s.client p s.seen s.unpushed.items = with_pass s.site s.client s.pass p s.seen s.unpushed.items is c.self.invariant in
    let at : c.taken-from.result ≡ s.client.taken = c.taken-from.ensures.taken ∙ ap (λ (z : SessionOf). z.client.taken) (sym c.self.view_is) in
    let was : f.result.2 ≡ Ok c.in_ok-downs.downs = cc in
    let next : AreNextMessages s.client (seen_by f.result.0) (made_in f.result.0 ++ own) c.as_slice.result.now =
    subst (AreNextMessages s.client (seen_by f.result.0) (made_in f.result.0 ++ own)) (sym c.as_slice.ensures) (may_take s.site s.client p f.result.0 s.seen s.unpushed.items c.taken-from.result c.args.most f.result.2 c.in_ok-downs.downs was before f.ensures.same at f.ensures.messages f.ensures.few f.ensures.stands) in
    took s.site s.client p f.result.0 s.seen s.unpushed.items c.taken-from.result c.args.most f.result.2 c.in_ok-downs.downs was before f.ensures.same at f.ensures.messages f.ensures.few f.ensures.stands c.take_all.new.client (length c.as_slice.result.now) f.result.1 f.ensures.length c.in_ok-take_all.ensures.ok (c.take_all.ensures.represents (seen_by f.result.0) (made_in f.result.0 ++ own) next)

pub returns-clause-all : goal.returns-clause-all
returns-clause-all g c =
    let s = c.self.inside in
    let p = c.in-Some.pass in
    let f = c.fetch-pass in
    let own = entries_by s.site s.unpushed.items in
    let is : s.pass ≡ Some p = sym c.take.ensures.value ∙ c.in-Some.is in
    let before : IsSession s.site s.client p s.seen s.unpushed.items = with_pass s.site s.client s.pass p s.seen s.unpushed.items is c.self.invariant in
    let at : c.taken-from.result ≡ s.client.taken = c.taken-from.ensures.taken ∙ ap (λ (z : SessionOf). z.client.taken) (sym c.self.view_is) in
    let was : f.result.2 ≡ Ok c.in_ok-downs.downs = cc in
    let many : length c.in_ok-downs.downs ≡ min c.args.most (length (seen_by f.result.0) - s.client.taken) = count s.site s.client p f.result.0 s.seen s.unpushed.items c.taken-from.result c.args.most f.result.2 c.in_ok-downs.downs was before f.ensures.same at f.ensures.messages f.ensures.few f.ensures.stands in
    c.len.ensures ∙ (many ∙ ap (λ (z : SessionOf). min c.args.most (length (seen_by f.result.0) - z.client.taken)) c.self.view_is)

pub returns-clause-none : goal.returns-clause-none
returns-clause-none g c =
    let s = c.self.inside in
    let p = c.in-Some.pass in
    let f = c.fetch-pass in
    let own = entries_by s.site s.unpushed.items in
    let is : s.pass ≡ Some p = sym c.take.ensures.value ∙ c.in-Some.is in
    let before : IsSession s.site s.client p s.seen s.unpushed.items = with_pass s.site s.client s.pass p s.seen s.unpushed.items is c.self.invariant in
    let at : c.taken-from.result ≡ s.client.taken = c.taken-from.ensures.taken ∙ ap (λ (z : SessionOf). z.client.taken) (sym c.self.view_is) in
    let was : f.result.2 ≡ Ok c.in_ok-downs.downs = cc in
    let many : length c.in_ok-downs.downs ≡ min c.args.most (length (seen_by f.result.0) - s.client.taken) = count s.site s.client p f.result.0 s.seen s.unpushed.items c.taken-from.result c.args.most f.result.2 c.in_ok-downs.downs was before f.ensures.same at f.ensures.messages f.ensures.few f.ensures.stands in
    let here : ReplicaStands s.client f.result.0 own = f.ensures.stands s.client own before.stands in
    let all : c.len.result ≡ min c.args.most (length (seen_by f.result.0) - c.args.self.now.client.taken) =
    c.len.ensures ∙ (many ∙ ap (λ (z : SessionOf). min c.args.most (length (seen_by f.result.0) - z.client.taken)) c.self.view_is) in
    let within : c.args.self.now.client.taken ≤ length (seen_by f.result.0) = subst (λ (z : SessionOf). z.client.taken ≤ length (seen_by f.result.0)) c.self.view_is here.represents.within in
    none_taken c.len.result c.args.most c.args.self.now.client.taken (length (seen_by f.result.0)) within all
