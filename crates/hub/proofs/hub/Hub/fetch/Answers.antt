use Rattle.std.proofs.Common.{◌≡◌, ◌-◌, length, map, ap, ◌∙◌, arith}
use Rattle.std.specs.Prelude.{min}
use Rattle.std.specs.List.{range_with_len}
use Rattle.jup_client.specs.Clients.{down_at}
use Rattle.hub.specs.Hubs.{HubOf}
use Rattle.hub.proofs.Ranges.{more-map-range, part-map-range}
use Rattle.hub.proofs.hub.Hub.fetch.Goals as goal

pub loop-place-preserved : goal.loop-place-preserved
loop-place-preserved c =
    more-map-range (down_at c.args.self.now.size c.args.self.now.entries c.args.site.0) c.args.from c.loop-place.place c.loop-place.downs c.push.new.self c.in_ok-message.field-0
    c.loop-place.auto.place c.loop-place.invariant c.in_ok-message.ensures c.in_ok-push.ensures.ok

pub returns : goal.returns
returns c =
    let messages = down_at c.args.self.now.size c.args.self.now.entries c.args.site.0 in
    let whole = length c.args.self.now.entries in
    let long : length c.self.inside.history ≡ whole = ap (λ (h : HubOf). length h.entries) c.self.view_is in
    let count : c.loop-place.place - c.args.from ≡ min (whole - c.args.from) c.args.most =
    omega (arith, long, c.len.ensures, c.min-count.ensures, c.loop-place-test.false, c.loop-place.auto.place, c.loop-place.auto.place-end) in
    c.loop-place.invariant ∙ (ap (λ n. map messages (range_with_len c.args.from n)) count ∙ part-map-range messages whole c.args.from c.args.most c.requires)
