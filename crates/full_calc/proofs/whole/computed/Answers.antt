use Rattle.std.proofs.Common.{◌≡◌, ◌∙◌, List, length, sym, ap}
use Rattle.std.specs.Prelude.{reverse}
use Rattle.cell_walk.specs.declared.walking.Colour.{Colour}
use Rattle.cell_walk.specs.declared.walking.Colour.TheVariants.{White}
use Rattle.cell_walk.specs.Walks.{hue}
use Rattle.cell_walk.proofs.Steps.{within_len}
use Rattle.sheet_grid.specs.Values.{placed_in}
use Rattle.sheet_grid.specs.Cells.{visible_size}
use Rattle.sheet_graph.specs.declared.graph.Node.{Node}
use Rattle.sheet_graph.specs.Columns.{number_in}
use Rattle.sheet_graph.specs.Graphs.{mentions_in, mentions_listed}
use Rattle.full_calc.specs.Evaluated.{circled, evaluated}
use Rattle.full_calc.proofs.Listed.{found_alike}
use Rattle.full_calc.proofs.Runs.{nodes_in, are_in, found_of}
use Rattle.full_calc.proofs.Counts.{few_steps}
use Rattle.full_calc.proofs.whole.computed.Goals as goal

pub walk_new-requires : goal.walk_new-requires
walk_new-requires g c = within_len (mentions_listed c.in_ok-graph.graph.nodes.items c.in_ok-graph.graph.columns.items) _ _ (c.len.ensures ∙ c.in_ok-graph.graph.nodes.ok.0) c.in_ok-graph.ensures.within

pub circle-requires-clause-inside : goal.circle-requires-clause-inside
circle-requires-clause-inside g c =
    are_in (visible_size (placed_in c.args.sheet.now)) c.in_ok-grid.grid.size c.in_ok-graph.graph.nodes.items c.deref.result.now c.in_ok-grid.ensures.size c.deref.ensures.value
    (nodes_in (placed_in c.args.sheet.now) c.in_ok-graph.graph.nodes.items (number_in c.in_ok-graph.graph.columns.items) c.in_ok-graph.ensures.graph)

pub circle-requires-clause-each : goal.circle-requires-clause-each
circle-requires-clause-each g c =
    ap (λ (cs : List Colour). length cs) c.deref-2.ensures.value
    ∙ (c.in_ok-found.ensures.len ∙ ((c.len.ensures ∙ c.in_ok-graph.graph.nodes.ok.0) ∙ sym (ap (λ (ns : List Node). length ns) c.deref.ensures.value)))

pub evaluate-requires : goal.evaluate-requires
evaluate-requires g c =
    are_in (visible_size (placed_in c.args.sheet.now)) c.circle.new.grid.size c.in_ok-graph.graph.nodes.items c.deref-3.result.now (c.in_ok-circle.ensures.size ∙ c.in_ok-grid.ensures.size) c.deref-3.ensures.value
    (nodes_in (placed_in c.args.sheet.now) c.in_ok-graph.graph.nodes.items (number_in c.in_ok-graph.graph.columns.items) c.in_ok-graph.ensures.graph)

pub returns-clause-computed : goal.returns-clause-computed
returns-clause-computed g c =
    let nodes = c.in_ok-graph.graph.nodes.items in
    let columns = c.in_ok-graph.graph.columns.items in
    let count : c.len.result ≡ length nodes = c.len.ensures ∙ c.in_ok-graph.graph.nodes.ok.0 in
    let found = found_alike (mentions_listed nodes columns) (mentions_in nodes columns) c.in_ok-graph.ensures.listed (λ k. White) c.len.result (hue c.in_ok-found.found.colours.items) (reverse c.in_ok-found.found.order.items) c.in_ok-found.ensures.found in
    record {
      nodes = nodes;
      columns = columns;
      colours = c.in_ok-found.found.colours.items;
      order = c.in_ok-found.found.order.items;
      base = c.in_ok-grid.grid;
      graph = c.in_ok-graph.ensures.graph;
      found = found_of (mentions_in nodes columns) (λ k. White) (hue c.in_ok-found.found.colours.items) (reverse c.in_ok-found.found.order.items) c.len.result (length nodes) count found;
      len = c.in_ok-found.ensures.len ∙ count;
      constants = c.in_ok-grid.ensures;
      values = c.in_ok-evaluate.ensures.values
          ∙ (λ i. evaluated (c.in_ok-lines.ensures.rows i) (c.in_ok-lines.ensures.cols i) (c.deref-3.ensures.value i) (c.deref-4.ensures.value i)
          ((c.in_ok-circle.ensures.values ∙ (λ j. circled (c.deref.ensures.value j) (c.deref-2.ensures.value j) (length (c.deref.ensures.value j)) c.in_ok-grid.grid)) i));
    }

pub returns-clause-count : goal.returns-clause-count
returns-clause-count g c =
    let nodes = c.in_ok-graph.graph.nodes.items in
    let columns = c.in_ok-graph.graph.columns.items in
    let count : c.len.result ≡ length nodes = c.len.ensures ∙ c.in_ok-graph.graph.nodes.ok.0 in
    let found = found_alike (mentions_listed nodes columns) (mentions_in nodes columns) c.in_ok-graph.ensures.listed (λ k. White) c.len.result (hue c.in_ok-found.found.colours.items) (reverse c.in_ok-found.found.order.items) c.in_ok-found.ensures.found in
    few_steps (placed_in c.args.sheet.now) nodes columns c.in_ok-graph.ensures.graph c.in_ok-found.found.colours.items c.in_ok-found.found.order.items c.len.result count (c.in_ok-found.ensures.len ∙ count) found
    c.deref-4.result.now c.deref-4.ensures.value c.args.steps.now c.evaluate.new.steps c.evaluate.ensures.count

pub returns-in_err-evaluate-clause-count : goal.returns-in_err-evaluate-clause-count
returns-in_err-evaluate-clause-count g c =
    let nodes = c.in_ok-graph.graph.nodes.items in
    let columns = c.in_ok-graph.graph.columns.items in
    let count : c.len.result ≡ length nodes = c.len.ensures ∙ c.in_ok-graph.graph.nodes.ok.0 in
    let found = found_alike (mentions_listed nodes columns) (mentions_in nodes columns) c.in_ok-graph.ensures.listed (λ k. White) c.len.result (hue c.in_ok-found.found.colours.items) (reverse c.in_ok-found.found.order.items) c.in_ok-found.ensures.found in
    few_steps (placed_in c.args.sheet.now) nodes columns c.in_ok-graph.ensures.graph c.in_ok-found.found.colours.items c.in_ok-found.found.order.items c.len.result count (c.in_ok-found.ensures.len ∙ count) found
    c.deref-4.result.now c.deref-4.ensures.value c.args.steps.now c.evaluate.new.steps c.evaluate.ensures.count
