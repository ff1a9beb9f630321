use Rattle.std.proofs.Common.{◌≡◌, ◌-◌, length, map, ap, sym, ◌∙◌, arith}
use Rattle.std.specs.List.{range_with_len}
use Rattle.sheet_ops.specs.Published.{effect_at}
use Rattle.hub.specs.Hubs.{HubOf}
use Rattle.hub.proofs.Ranges.{more-map-range, drop-map-range}
use Rattle.hub.proofs.hub.Hub.batch.Goals as goal

pub loop-place-preserved : goal.loop-place-preserved
loop-place-preserved c =
    more-map-range (effect_at c.args.self.now.size c.args.self.now.entries) c.args.from c.loop-place.place c.loop-place.effects c.push.new.self c.in_ok-copy.field-0
    c.loop-place.auto.place c.loop-place.invariant (c.in_ok-copy.ensures ∙ c.effect.ensures) c.in_ok-push.ensures.ok

pub returns : goal.returns
returns c =
    let effects = effect_at c.args.self.now.size c.args.self.now.entries in
    let whole = length c.args.self.now.entries in
    let long : length c.self.inside.history ≡ whole = ap (λ (h : HubOf). length h.entries) c.self.view_is in
    let count : c.loop-place.place - c.args.from ≡ whole - c.args.from = omega (arith, long, c.len-place-end.ensures, c.loop-place-test.false, c.loop-place.auto.place, c.loop-place.auto.place-end, c.requires) in
    c.loop-place.invariant
    ∙ (ap (λ n. map effects (range_with_len c.args.from n)) count ∙ sym (drop-map-range effects 0 whole c.args.from c.args.from (whole - c.args.from) (omega arith) (omega (arith, c.requires))))
