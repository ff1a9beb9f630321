use Rattle.std.proofs.Common.{◌∙◌, refl, arith}
use Rattle.cell_walk.specs.Walks.{hue}
use Rattle.cell_walk.proofs.Skips.{first_skips}
use Rattle.cell_walk.proofs.Steps.{at_first, seen_more, within_len}
use Rattle.cell_walk.proofs.walking.walk_all.Goals as goal

pub visit-requires-clause-within : goal.visit-requires-clause-within
visit-requires-clause-within g c = within_len (g.G.Mentions.mentions c.args.graph.now) _ _ c.loop-cell.invariant.len c.requires.within

pub loop-cell-init : goal.loop-cell-init
loop-cell-init g c = record {
  len = refl;
  empty = c.new-2.ensures.items;
  holds = at_first (g.G.Mentions.mentions c.args.graph.now) (g.G.Mentions.rest c.args.graph.now) (hue c.args.colours.items) c.new.result.items c.new.ensures.items c.requires.begin;
  skips = first_skips c.args.colours.items c.len-count.result c.in_ok-nexts.field-0.items (let few = c.requires.few in let e = c.len-count.ensures in c.in_ok-nexts.ensures) (let few = c.requires.few in let e = c.len-count.ensures in let k = c.args.colours.ok.0 in omega (arith, few, e, k));
  seen = λ x h. absurd (omega arith);
}

pub loop-cell-preserved : goal.loop-cell-preserved
loop-cell-preserved g c = record {
  len = c.in_ok-visit.ensures.len ∙ c.loop-cell.invariant.len;
  empty = c.in_ok-visit.ensures.empty;
  holds = c.in_ok-visit.ensures.holds (hue c.args.colours.items) c.loop-cell.invariant.holds;
  skips = c.in_ok-visit.ensures.skips;
  seen = seen_more c.loop-cell.walk.colours.items c.visit.new.self.colours.items c.loop-cell.cell c.loop-cell.invariant.seen c.in_ok-visit.ensures.seen c.in_ok-visit.ensures.here;
}
