use Rattle.std.proofs.Common.{List, ℕ, take, length, refl, sym, ◌∙◌, subst, arith}
use Rattle.std.proofs.lemmas.List.{take_more, take_all}
use Rattle.sheet_grid.specs.Values.{placed_in}
use Rattle.sheet_grid.specs.Cells.{visible_size}
use Rattle.sheet_graph.specs.declared.columns.FormulaCell.{FormulaCell}
use Rattle.sheet_graph.specs.Columns.{EndsAt, number_in}
use Rattle.sheet_graph.specs.Graphs.{IsGraphTo}
use Rattle.sheet_graph.proofs.Building.{at_in, up_before, up_few, none_yet, col_done}
use Rattle.sheet_graph.proofs.graph.Graph.pass_col.Goals as goal

pub loop-row-init : goal.loop-row-init
loop-row-init c = record {
  len = refl;
  few = let few = c.requires.few in omega (arith, few);
  counted = subst (λ (seats : List FormulaCell). EndsAt seats (length c.args.self.now.nodes.items)) (sym (none_yet (placed_in c.args.sheet.now) c.args.col c.args.self.now.nodes.items c.args.self.now.columns.items c.requires.graph)) (length c.args.self.now.nodes.items, tt, omega arith);
  rising = c.requires.rising;
  graph = c.requires.graph;
}

pub pass-requires-clause-col : goal.pass-requires-clause-col
pass-requires-clause-col c =
    let inside = c.requires.col in
    let same = c.loop-row.invariant.len in
    omega (arith, inside, same)

pub pass-requires-clause-row : goal.pass-requires-clause-row
pass-requires-clause-row c =
    let inside = c.requires.filled.below _ (at_in c.args.rows.now c.loop-row.row-index 0 c.loop-row-test.true) in
    let height = c.requires.height in
    omega (arith, inside, height)

pub pass-requires-clause-few : goal.pass-requires-clause-few
pass-requires-clause-few c =
    let few = c.loop-row.invariant.few in
    let below = c.requires.below in
    let short = up_few c.args.rows.now (visible_size (placed_in c.args.sheet.now)).rows c.requires.filled.rising c.requires.filled.below in
    let height = c.requires.height in
    let more = c.loop-row-test.true in
    omega (arith, few, below, short, height, more)

pub pass-requires-clause-counted : goal.pass-requires-clause-counted
pass-requires-clause-counted c = c.loop-row.invariant.counted

pub pass-requires-clause-graph : goal.pass-requires-clause-graph
pass-requires-clause-graph c = (
  take c.loop-row.row-index c.args.rows.now,
  up_before c.args.rows.now c.loop-row.row-index c.requires.filled.rising c.loop-row-test.true,
  c.loop-row.invariant.graph,
)

pub loop-row-preserved : goal.loop-row-preserved
loop-row-preserved c = record {
  len = c.in_ok-pass.ensures.len ∙ c.loop-row.invariant.len;
  few = let a = c.in_ok-pass.ensures.few in let b = c.loop-row.invariant.few in omega (arith, a, b);
  counted = c.in_ok-pass.ensures.counted;
  rising = c.in_ok-pass.ensures.rising c.loop-row.invariant.rising;
  graph = subst (λ (rs : List ℕ). IsGraphTo (placed_in c.args.sheet.now) c.args.col rs c.pass.new.self.nodes.items (number_in c.pass.new.self.columns.items)) (sym (take_more c.args.rows.now c.loop-row.row-index 0 c.loop-row-test.true))
      (c.in_ok-pass.ensures.graph (take c.loop-row.row-index c.args.rows.now) (up_before c.args.rows.now c.loop-row.row-index c.requires.filled.rising c.loop-row-test.true) c.loop-row.invariant.graph);
}

pub returns-clause-few : goal.returns-clause-few
returns-clause-few c =
    let few = c.loop-row.invariant.few in
    let short = up_few c.args.rows.now (visible_size (placed_in c.args.sheet.now)).rows c.requires.filled.rising c.requires.filled.below in
    let height = c.requires.height in
    let within = c.loop-row.auto.row-index-end in
    omega (arith, few, short, height, within)

pub returns-clause-graph : goal.returns-clause-graph
returns-clause-graph c =
    let past = c.loop-row-test.false in
    col_done (placed_in c.args.sheet.now) c.args.col c.loop-row.self.nodes.items (number_in c.loop-row.self.columns.items) c.args.rows.now
    (subst (λ (rs : List ℕ). IsGraphTo (placed_in c.args.sheet.now) c.args.col rs c.loop-row.self.nodes.items (number_in c.loop-row.self.columns.items)) (take_all c.loop-row.row-index c.args.rows.now past) c.loop-row.invariant.graph)
    c.requires.filled
