use Rattle.std.proofs.Common.{◌≡◌, ◌+◌, ◌++◌, ◌∷◌, [], ℕ, suc, List, Some, length, drop, get_or, refl, ◌<◌, ap, sym, ◌∙◌, subst, arith}
use Rattle.std.specs.Prelude.{slice_get, vec_len}
use Rattle.std.proofs.lemmas.Option.{slice_get_read}
use Rattle.live_session.specs.Sessions.{SessionOf}
use Rattle.live_script.specs.declared.script.SiteScript.{SiteScript}
use Rattle.live_threads.specs.declared.threads.Begun.{Begun}
use Rattle.live_threads.specs.Begun.{IsAtWork, MayBeginOne}
use Rattle.live_threads.proofs.Lists.{each_more, next_there, rest_there}
use Rattle.live_threads.proofs.threads.begin_all.Goals as goal

-- what stands at a place of a list that was read there
there : (sites read : List SiteScript) (k i : ℕ) (t : SiteScript) → read ≡ sites → i ≡ k → k < length sites → t ≡ get_or read i t → slice_get sites k ≡ Some t
there sites read k i t same at within is =
    slice_get_read sites (length sites) k t refl within (is ∙ (ap (λ (l : List SiteScript). get_or l i t) same ∙ ap (λ (n : ℕ). get_or sites n t) at))

pub overflow_cast-site : goal.overflow_cast-site
overflow_cast-site g c = omega (arith, c.requires.may.as_many, c.requires.may.few, c.loop-session.invariant.left, c.len-place.ensures)

pub overflow_add-site : goal.overflow_add-site
overflow_add-site g c = omega (arith, c.requires.may.as_many, c.requires.may.few, c.loop-session.invariant.left, c.len-place.ensures)

pub begin-requires-after_bounds : goal.begin-requires-after_bounds
begin-requires-after_bounds g c κs within =
    let inv = c.loop-session.invariant in
    let steps = c.in-Some.ensures.steps in
    let k = vec_len c.loop-session.begun in
    let t = c.index-as_slice-place.result in
    let low : k < length c.args.script.now.sites = omega (arith, steps.1, inv.left, c.requires.may.as_many) in
    let site_at = there c.args.script.now.sites c.as_slice.result.now k c.len-place.result t c.as_slice.ensures c.len-place.ensures low c.index-as_slice-place.is in
    let session_at = next_there c.args.sessions k c.in-Some.session _ (sym inv.rest ∙ steps.0) in
    let one : suc k ≡ c.len-place.result + 1 = omega (arith, c.len-place.ensures) in
    subst (λ (n : ℕ). MayBeginOne g.J.Workplace.book g.J.Workplace.size g.J.Workplace.stores g.J.Workplace.sites c.args.book.now n t c.in-Some.session) one (c.requires.may.each k t c.in-Some.session site_at session_at)

pub push_reserved-requires : goal.push_reserved-requires
push_reserved-requires g c =
    let steps = c.in-Some.ensures.steps in
    omega (arith, steps.1, c.loop-session.invariant.room, c.loop-session.invariant.left)

pub loop-session-preserved : goal.loop-session-preserved
loop-session-preserved g c =
    let inv = c.loop-session.invariant in
    let steps = c.in-Some.ensures.steps in
    let k = vec_len c.loop-session.begun in
    let t = c.index-as_slice-place.result in
    let place : k ≡ length c.loop-session.begun.items = c.loop-session.begun.ok.0 in
    let low : k < length c.args.script.now.sites = omega (arith, steps.1, inv.left, c.requires.may.as_many) in
    let site_at = there c.args.script.now.sites c.as_slice.result.now k c.len-place.result t c.as_slice.ensures c.len-place.ensures low c.index-as_slice-place.is in
    let session_at = next_there c.args.sessions k c.in-Some.session _ (sym inv.rest ∙ steps.0) in
    let one : c.len-place.result + 1 ≡ suc (length c.loop-session.begun.items) = omega (arith, c.len-place.ensures, place) in
    record {
      room = omega (arith, inv.room, c.push_reserved.ensures.capacity);
      left = omega (arith, inv.left, steps.1, c.push_reserved.ensures.len);
      rest = rest_there c.args.sessions k _ c.in-Some.session _ (sym inv.rest ∙ steps.0) c.push_reserved.ensures.len;
      each = λ j b at.
          each_more (λ (n : ℕ) (x : Begun). (session : SessionOf) × (s : SiteScript) × (slice_get c.args.sessions n ≡ Some session) × (slice_get c.args.script.now.sites n ≡ Some s) × IsAtWork (suc n) session s x) c.loop-session.begun.items c.begin.result inv.each (
            c.in-Some.session,
            t,
            subst (λ (n : ℕ). slice_get c.args.sessions n ≡ Some c.in-Some.session) place session_at,
            subst (λ (n : ℕ). slice_get c.args.script.now.sites n ≡ Some t) place site_at,
            subst (λ (n : ℕ). IsAtWork n c.in-Some.session t c.begin.result) one c.begin.ensures,
          )
          j b (ap (λ (l : List Begun). slice_get l j) (sym c.push_reserved.ensures.items) ∙ at);
    }

pub returns : goal.returns
returns g c =
    let inv = c.loop-session.invariant in
    let done = c.in-None.ensures.steps in
    record {
      as_many = omega (arith, done.0, inv.left, c.loop-session.begun.ok.0);
      each = inv.each;
    }
