use Rattle.std.proofs.Common.{◌∙◌}
use Rattle.std.specs.Prelude.{reverse}
use Rattle.cell_walk.specs.Walks.{hue}
use Rattle.cell_walk.proofs.Steps.{within_len}
use Rattle.cell_walk.proofs.White.{if_ok, count_is, begins_white, found_white}
use Rattle.cell_walk.proofs.walking.walk_new.Goals as goal

pub walk_all-requires-clause-within : goal.walk_all-requires-clause-within
walk_all-requires-clause-within g c = within_len (g.G.Mentions.mentions c.args.graph.now) _ _ (count_is c.in_ok-colours.colours.items c.args.count c.in_ok-colours.ensures) c.requires

pub walk_all-requires-clause-begin : goal.walk_all-requires-clause-begin
walk_all-requires-clause-begin g c = begins_white c.in_ok-colours.colours.items c.args.count c.in_ok-colours.ensures (g.G.Mentions.mentions c.args.graph.now)

pub returns-clause-len : goal.returns-clause-len
returns-clause-len g c = if_ok c.walk_all.result c.walk_all.ensures.len (λ w e. e ∙ count_is c.in_ok-colours.colours.items c.args.count c.in_ok-colours.ensures)

pub returns-clause-found : goal.returns-clause-found
returns-clause-found g c =
    if_ok c.walk_all.result c.walk_all.ensures.found (λ w f. found_white c.in_ok-colours.colours.items c.args.count c.in_ok-colours.ensures (g.G.Mentions.mentions c.args.graph.now) (hue w.colours.items) (reverse w.order.items) f)
