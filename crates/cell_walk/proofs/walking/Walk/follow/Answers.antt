use Rattle.std.proofs.Common.{List, reverse, ◌∙◌, subst, arith}
use Rattle.cell_walk.specs.declared.walking.Entry.{Entry}
use Rattle.cell_walk.specs.Walks.{hue, Holds}
use Rattle.cell_walk.proofs.Steps.{popped, nil_of, within_len}
use Rattle.cell_walk.proofs.walking.Walk.follow.Goals as goal

pub turn-requires-clause-within : goal.turn-requires-clause-within
turn-requires-clause-within g c = within_len (g.G.Mentions.mentions c.args.graph.now) _ _ c.loop-top.invariant.len c.requires.within

pub turn-requires-clause-holds : goal.turn-requires-clause-holds
turn-requires-clause-holds g c = (
  c.requires.holds.0,
  popped (g.G.Mentions.mentions c.args.graph.now) (g.G.Mentions.rest c.args.graph.now) c.requires.holds.0 c.loop-top.self.colours.items c.loop-top.self.order.items c.loop-top.self.stack.items c.pop.new.self.items c.in-Some.top c.in-Some.ensures.items
      (c.loop-top.invariant.holds c.requires.holds.0 c.requires.holds.1),
)

pub loop-top-preserved : goal.loop-top-preserved
loop-top-preserved g c = record {
  len = c.in_ok-turn.ensures.len ∙ c.loop-top.invariant.len;
  holds = λ first h. c.in_ok-turn.ensures.holds first
      (popped (g.G.Mentions.mentions c.args.graph.now) (g.G.Mentions.rest c.args.graph.now) first c.loop-top.self.colours.items c.loop-top.self.order.items c.loop-top.self.stack.items c.pop.new.self.items c.in-Some.top c.in-Some.ensures.items (c.loop-top.invariant.holds first h));
  skips = c.in_ok-turn.ensures.skips;
  seen = λ x n. c.in_ok-turn.ensures.seen x (c.loop-top.invariant.seen x n);
}

pub returns-clause-holds : goal.returns-clause-holds
returns-clause-holds g c =
    λ first h. subst (λ (st : List Entry). Holds (g.G.Mentions.mentions c.args.graph.now) (g.G.Mentions.rest c.args.graph.now) first (hue c.loop-top.self.colours.items) (reverse c.loop-top.self.order.items) (reverse st))
    (nil_of c.loop-top.self.stack.items (let z = c.in_default.ensures.cases.0 in let k = c.loop-top.self.stack.ok.0 in omega arith)) (c.loop-top.invariant.holds first h)
