use Rattle.std.proofs.Common.{◌≡◌, ◌+◌, ◌++◌, ◌∷◌, [], ℕ, suc, List, Some, length, drop, ap, sym, ◌∙◌, subst, arith}
use Rattle.std.specs.Prelude.{slice_get, vec_len}
use Rattle.live_site.specs.declared.run.SiteEnd.{SiteEnd}
use Rattle.live_threads.specs.declared.threads.Begun.{Begun}
use Rattle.live_threads.specs.Threads.{LeftBy}
use Rattle.live_threads.specs.Begun.{Keeps}
use Rattle.live_threads.proofs.Lists.{all_there, each_more, next_there, rest_there}
use Rattle.live_threads.proofs.threads.end_each.Goals as goal

pub ended-requires : goal.ended-requires
ended-requires g c =
    let steps = c.in-Some.ensures.steps in
    all_there (λ (b : Begun). Keeps b.work b.running) c.args.begun.items c.requires.keep (vec_len c.loop-site.ends) c.in-Some.site (next_there c.args.begun.items (vec_len c.loop-site.ends) c.in-Some.site _ (sym c.loop-site.invariant.rest ∙ steps.0))

pub push_reserved-requires : goal.push_reserved-requires
push_reserved-requires g c =
    let steps = c.in-Some.ensures.steps in
    omega (arith, steps.1, c.loop-site.invariant.room, c.loop-site.invariant.left)

pub loop-site-preserved : goal.loop-site-preserved
loop-site-preserved g c =
    let inv = c.loop-site.invariant in
    let steps = c.in-Some.ensures.steps in
    let k = vec_len c.loop-site.ends in
    let place : k ≡ length c.loop-site.ends.items = c.loop-site.ends.ok.0 in
    let there = next_there c.args.begun.items k c.in-Some.site _ (sym inv.rest ∙ steps.0) in
    record {
      room = omega (arith, inv.room, c.push_reserved.ensures.capacity);
      left = omega (arith, inv.left, steps.1, c.push_reserved.ensures.len);
      rest = rest_there c.args.begun.items k _ c.in-Some.site _ (sym inv.rest ∙ steps.0) c.push_reserved.ensures.len;
      each = λ j e at.
          each_more (λ (n : ℕ) (x : SiteEnd). (b : Begun) × (slice_get c.args.begun.items n ≡ Some b) × LeftBy b.work.session.value b.work.site.0 b.work.script.value x) c.loop-site.ends.items c.ended.result inv.each
          (c.in-Some.site, subst (λ (n : ℕ). slice_get c.args.begun.items n ≡ Some c.in-Some.site) place there, c.ended.ensures)
          j e (ap (λ (l : List SiteEnd). slice_get l j) (sym c.push_reserved.ensures.items) ∙ at);
    }

pub returns : goal.returns
returns g c =
    let inv = c.loop-site.invariant in
    let done = c.in-None.ensures.steps in
    record {
      as_many = omega (arith, ap length c.from_vec.ensures, done.0, inv.left, c.loop-site.ends.ok.0);
      each = λ k e at. inv.each k e (ap (λ (l : List SiteEnd). slice_get l k) (sym c.from_vec.ensures) ∙ at);
    }
