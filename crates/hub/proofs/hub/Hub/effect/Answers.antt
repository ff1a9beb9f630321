use Rattle.std.proofs.Common.{◌≡◌, ◌<◌, length, ap, sym, ◌∙◌, subst, arith}
use Rattle.std.proofs.lemmas.List.FromFn.{length-map-range_with_len}
use Rattle.sheet_ops.specs.Published.{effect_at}
use Rattle.hub.specs.Hubs.{HubOf}
use Rattle.hub.proofs.Effects.{effect_in}
use Rattle.hub.proofs.hub.Hub.effect.Goals as goal

pub index-requires : goal.index-requires
index-requires c =
    let H = c.self.inside.history in
    let within : c.args.place < length H = subst (λ (h : HubOf). c.args.place < length h.entries) (sym c.self.view_is) c.requires in
    let many = ap length c.self.invariant.effects_are ∙ length-map-range_with_len (effect_at c.self.inside.server.size H) 0 (length H) in
    omega (arith, within, many, c.self.inside.effects.ok.0)

pub returns : goal.returns
returns c =
    let H = c.self.inside.history in
    let within : c.args.place < length H = subst (λ (h : HubOf). c.args.place < length h.entries) (sym c.self.view_is) c.requires in
    subst (λ (h : HubOf). c.index.result.now ≡ effect_at h.size h.entries c.args.place) c.self.view_is
    (effect_in c.self.inside.server.size H c.self.inside.effects.items c.args.place c.index.result.now c.self.invariant.effects_are within c.index.ensures)
