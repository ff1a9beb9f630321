use Rattle.std.proofs.Common.{◌≡◌, ◌∷◌, List, length, subst, ap, arith}
use Rattle.sheet_ops.specs.declared.operation.Up.{Up}
use Rattle.live_session.specs.Pushing.{Pushes, StandsIn}
use Rattle.live_session.specs.Sessions.{entries_by}
use Rattle.live_session.proofs.PushedOwn.{pushed_none, pushed_one, first_may, stands_one}
use Rattle.live_session.proofs.pushes.push_waiting.Goals as goal

pub loop-count-init : goal.loop-count-init
loop-count-init c = record {
  pushes = pushed_none c.args.site c.args.hub.now c.args.unpushed.now.items;
  counted = omega arith;
  within = omega arith;
  stands = λ d s. s;
}

pub loop-count-preserved : goal.loop-count-preserved
loop-count-preserved c =
    let p = c.in-Ok.ensures.ok in
    let was = c.loop-count.invariant in
    let left = c.push_first.new.unpushed.items in
    let more : length c.loop-count.unpushed.items ≡ length (p.up ∷ left) = ap length p.split in
    record {
      pushes = pushed_one c.args.site c.args.hub.now c.loop-count.hub c.push_first.new.hub c.args.unpushed.now.items left p.up (subst (Pushes c.args.site c.args.hub.now c.loop-count.hub c.args.unpushed.now.items) p.split was.pushes) p.hub_is;
      counted = omega (arith, more, was.counted);
      within = omega arith;
      stands = λ d s. stands_one c.args.site d c.loop-count.hub c.push_first.new.hub p.up left p.hub_is c.in-Ok.ensures.valid
          (subst (λ (l : List Up). StandsIn c.loop-count.hub d c.args.site.0 (entries_by c.args.site l)) p.split (was.stands d s));
    }

pub unsubmitted-requires : goal.unsubmitted-requires
unsubmitted-requires c =
    c.in-Err.ensures.may
    (first_may c.args.site c.requires.0 c.loop-count.hub c.loop-count.unpushed.items (c.loop-count.invariant.stands c.requires.0 c.requires.1))
