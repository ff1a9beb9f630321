use Rattle.std.proofs.Common.{◌≡◌, ◌∙◌, ◌++◌, [], ◌∷◌, length, arith}
use Rattle.std.proofs.lemmas.List.{get_or_default}
use Rattle.sheet_graph.specs.Columns.{column_at}
use Rattle.sheet_graph.proofs.Building.{numbers_set}
use Rattle.sheet_graph.proofs.graph.Graph.add.Goals as goal

pub returns-clause-numbers : goal.returns-clause-numbers
returns-clause-numbers c =
    let k = c.args.self.now.nodes.ok.0 in
    let e = c.len-number.ensures in
    let few = c.requires.few in
    let long : c.len-number.result ≡ length c.args.self.now.nodes.items = omega (arith, k, e, few) in
    let columns = c.args.self.now.columns.items in
    let here : c.index_mut.result.now ≡ column_at columns c.args.node.col = c.index_mut.ensures.value ∙ get_or_default columns c.args.node.col c.index_mut.result.now [] c.requires.col in
    numbers_set columns c.args.node.col (record { row = c.args.node.row; number = length c.args.self.now.nodes.items }) c.push.new.self c.requires.col c.requires.below
    (c.in_ok-push.ensures.seats ∙ (λ i. here i ++ record { row = c.args.node.row; number = long i } ∷ []))
