use Rattle.std.proofs.Common.{◌≡◌, ◌<◌, false, ap, sym, ◌∙◌, subst}
use Rattle.sheet_ops.specs.Placed.{PlacedSheet}
use Rattle.sheet_grid.specs.Cells.{visible_size}
use Rattle.sheet_graph.specs.Graphs.{content_seen, is_formula_content}
use Rattle.full_calc.specs.Evaluated.{constant_of}
use Rattle.full_calc.proofs.Shows.{table_value}
use Rattle.full_calc.proofs.Runs.{leaf_shown}
use Rattle.full_calc.proofs.constants.constant_value.Goals as goal

pub returns-clause-value : goal.returns-clause-value
returns-clause-value c X formed same =
    let row = c.args.row in
    let col = c.args.col in
    let below = subst (λ (P : PlacedSheet). row < (visible_size P).rows) (sym same) c.requires.row in
    let left = subst (λ (P : PlacedSheet). col < (visible_size P).cols) (sym same) c.requires.col in
    let plain = subst (λ (P : PlacedSheet). is_formula_content (content_seen P row col) ≡ false) (sym same) (sym c.is_formula.ensures ∙ c.if-is_formula.false) in
    c.in_ok-constant_seen.ensures
    ∙ (ap (λ (P : PlacedSheet). constant_of (content_seen P row col)) (sym same) ∙ (leaf_shown X formed row col below left plain ∙ sym (table_value X row col below left)))
