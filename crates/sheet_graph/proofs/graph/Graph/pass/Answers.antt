use Rattle.std.proofs.Common.{ℕ, ◌<◌, length, sym, subst, arith}
use Rattle.std.specs.List.{AllByRecursion}
use Rattle.sheet_grid.specs.Values.{placed_in}
use Rattle.sheet_graph.specs.Columns.{EndsAt, column_at, number_in}
use Rattle.sheet_graph.proofs.Building.{passed, extended_as, all_above, not_among}
use Rattle.sheet_graph.proofs.graph.Graph.pass.Goals as goal

pub add-requires-clause-col : goal.add-requires-clause-col
add-requires-clause-col c =
    let f = rw c.in-Some.is at c.in_ok-node.ensures in
    let e = f.1 in
    let l = c.requires.col in
    omega (arith, e, l)

pub add-requires-clause-below : goal.add-requires-clause-below
add-requires-clause-below c =
    let f = rw c.in-Some.is at c.in_ok-node.ensures in
    let g = c.requires.graph in
    subst (λ (r : ℕ). AllByRecursion (λ s. s.row < r) (column_at c.args.self.now.columns.items c.in-Some.node.col)) (sym f.0)
    (subst (λ (q : ℕ). AllByRecursion (λ s. s.row < c.args.row) (column_at c.args.self.now.columns.items q)) (sym f.1)
    (all_above (placed_in c.args.sheet.now) c.args.row c.args.col g.0 c.args.self.now.nodes.items c.args.self.now.columns.items g.1 g.2))

pub add-requires-clause-counted : goal.add-requires-clause-counted
add-requires-clause-counted c =
    let f = rw c.in-Some.is at c.in_ok-node.ensures in
    subst (λ (q : ℕ). EndsAt (column_at c.args.self.now.columns.items q) (length c.args.self.now.nodes.items)) (sym f.1) c.requires.counted

pub add-requires-clause-row : goal.add-requires-clause-row
add-requires-clause-row c =
    let f = rw c.in-Some.is at c.in_ok-node.ensures in
    let e = f.0 in
    let l = c.requires.row in
    omega (arith, e, l)

pub returns-in_ok-add-clause-counted : goal.returns-in_ok-add-clause-counted
returns-in_ok-add-clause-counted c =
    let f = rw c.in-Some.is at c.in_ok-node.ensures in
    subst (λ (q : ℕ). EndsAt (column_at c.add.new.self.columns.items q) (length c.add.new.self.nodes.items)) f.1 c.in_ok-add.ensures.counted

pub returns-in_ok-add-clause-graph : goal.returns-in_ok-add-clause-graph
returns-in_ok-add-clause-graph c =
    let f = rw c.in-Some.is at c.in_ok-node.ensures in
    λ before up g. extended_as (placed_in c.args.sheet.now) c.args.col c.args.self.now.nodes.items (number_in c.args.self.now.columns.items) before c.args.row g (not_among c.args.row before up) c.in-Some.node f.0 f.1 f.2
    c.add.new.self.nodes.items (number_in c.add.new.self.columns.items) c.in_ok-add.ensures.nodes c.in_ok-add.ensures.numbers

pub returns-in_default-clause-graph : goal.returns-in_default-clause-graph
returns-in_default-clause-graph c = λ before up g. passed (placed_in c.args.sheet.now) c.args.col c.args.self.now.nodes.items (number_in c.args.self.now.columns.items) before c.args.row g (rw c.in_default.is at c.in_ok-node.ensures)
