use Rattle.std.proofs.Common.{◌≡◌, sym, ap, subst, ◌∙◌}
use Rattle.std.specs.Prelude.{OnOk}
use Rattle.ss_base.specs.declared.types.Spot.{Spot}
use Rattle.ss_base.specs.declared.types.Span.{Span}
use Rattle.formula_tree.specs.Tree.{Tree}
use Rattle.sheet_value.specs.declared.value.Value.{Value}
use Rattle.sheet_value.specs.Tables.{with_value}
use Rattle.cell_eval.specs.Meaning.{formula_value}
use Rattle.sheet_graph.specs.Placing.{tree_placed}
use Rattle.full_calc.specs.Looks.{look_environment}
use Rattle.full_calc.proofs.Stored.{stored_value}
use Rattle.full_calc.proofs.evaluation.evaluate_node.Goals as goal

pub returns-clause-value : goal.returns-clause-value
returns-clause-value g c =
    let E = look_environment c.args.lines.now.rows c.args.lines.now.cols c.args.grid.now in
    let V = c.parts-stored.result.0.now in
    let is : c.in_ok-value.value ≡ formula_value E c.args.node.now.formula =
    c.in_ok-value.ensures.value
    ∙ (stored_value V E c.in_ok-code.code
    ∙ (ap (λ (t : Tree Spot Span). formula_value E (tree_placed V t)) c.in_ok-code.ensures
    ∙ ap (formula_value E) (sym c.parts-stored.ensures))) in
    subst (λ (v : Value). OnOk c.put.result (c.put.new.self ≡ with_value c.args.grid.now c.args.node.now.row c.args.node.now.col v)) is c.put.ensures.ok
