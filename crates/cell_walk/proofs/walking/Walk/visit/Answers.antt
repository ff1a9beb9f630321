use Rattle.std.proofs.Common.{◌≡◌, List, length, sym, ◌∙◌, subst, ap}
use Rattle.std.proofs.lemmas.List.{length-set}
use Rattle.cell_walk.specs.declared.walking.Colour.{Colour}
use Rattle.cell_walk.specs.declared.walking.Colour.TheVariants.{White, Grey}
use Rattle.cell_walk.specs.Walks.{hue}
use Rattle.cell_walk.proofs.Hues.{white_is}
use Rattle.cell_walk.proofs.Steps.{begun, within_len, on_ok1}
use Rattle.cell_walk.proofs.walking.Walk.visit.Goals as goal

pub follow-requires-clause-within : goal.follow-requires-clause-within
follow-requires-clause-within g c =
    within_len (g.G.Mentions.mentions c.args.graph.now) _ _ (ap (λ (cs : List Colour). length cs) c.in_ok-descend.ensures.colours ∙ length-set c.args.self.now.colours.items c.args.cell Grey) c.requires.within

pub follow-requires-clause-holds : goal.follow-requires-clause-holds
follow-requires-clause-holds g c =
    let s = c.args.self.now in
    let white = subst (λ (cs : List Colour). hue cs c.args.cell ≡ White) c.deref.ensures.value (white_is (hue c.deref.result.now c.args.cell) (sym c.is_new.ensures ∙ c.if-is_new.true)) in (
      c.requires.holds.0,
      begun (g.G.Mentions.mentions c.args.graph.now) (g.G.Mentions.rest c.args.graph.now) c.requires.holds.0 s.colours.items c.descend.new.self.colours.items s.order.items c.descend.new.self.order.items s.stack.items c.descend.new.self.stack.items c.args.cell
          (g.met.G.Mentions.from_start c.args.graph.now) c.requires.cell white c.requires.empty c.requires.holds.1 c.in_ok-descend.ensures.colours c.in_ok-descend.ensures.order c.in_ok-descend.ensures.stack,
    )

pub returns-in_ok-descend-clause-holds : goal.returns-in_ok-descend-clause-holds
returns-in_ok-descend-clause-holds g c =
    let s = c.args.self.now in
    let white = subst (λ (cs : List Colour). hue cs c.args.cell ≡ White) c.deref.ensures.value (white_is (hue c.deref.result.now c.args.cell) (sym c.is_new.ensures ∙ c.if-is_new.true)) in
    on_ok1 c.follow.result c.follow.ensures.holds
    (λ k first h. k first (begun (g.G.Mentions.mentions c.args.graph.now) (g.G.Mentions.rest c.args.graph.now) first s.colours.items c.descend.new.self.colours.items s.order.items c.descend.new.self.order.items s.stack.items c.descend.new.self.stack.items c.args.cell
    (g.met.G.Mentions.from_start c.args.graph.now) c.requires.cell white c.requires.empty h c.in_ok-descend.ensures.colours c.in_ok-descend.ensures.order c.in_ok-descend.ensures.stack))
