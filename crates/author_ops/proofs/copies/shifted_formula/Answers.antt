use Rattle.std.proofs.Common.{ap, arith, ◌≡◌, ◌≤◌, ◌∙◌, length}
use Rattle.ss_base.specs.declared.types.Size.{Size}
use Rattle.formula_tree.specs.Erase.{tree_of}
use Rattle.formula_tree.specs.Remap.{remap_tree}
use Rattle.formula_tree.specs.WellFormed.{IsFormula}
use Rattle.sheet_grid.specs.Values.{placed_in}
use Rattle.author_ops.specs.Placed.{cell_shifted, range_shifted}
use Rattle.author_ops.proofs.Remapped.{formula_remapped}
use Rattle.author_ops.proofs.Shifted.{cells_formed, ranges_formed}
use Rattle.author_ops.proofs.copies.shifted_formula.Goals as goal

pub new-requires : goal.new-requires
new-requires c =
    let P = placed_in c.args.copying.now.sheet.now in
    let rows = c.args.copying.now.rows in
    let cols = c.args.copying.now.cols in
    let tall = ap (λ (s : Size). s.rows) c.size-size.ensures.size in
    let wide = ap (λ (s : Size). s.cols) c.size-size.ensures.size in
    let few : length P.rows ≤ 16000 = omega (arith, tall, c.size-size.ensures.rows) in
    let narrow : length P.cols ≤ 16000 = omega (arith, wide, c.size-size.ensures.cols) in
    let formed : IsFormula (tree_of c.into_expr-expr.result) = rw c.into_expr-expr.ensures.tree c.into_expr-expr.ensures.formula in
    rw c.shift_expr.ensures (formula_remapped (cell_shifted P rows cols) (range_shifted P rows cols) (cells_formed P rows cols few narrow) (ranges_formed P rows cols few narrow) _ formed)

pub returns : goal.returns
returns c =
    let P = placed_in c.args.copying.now.sheet.now in
    let rows = c.args.copying.now.rows in
    let cols = c.args.copying.now.cols in
    c.new.ensures ∙ (c.shift_expr.ensures ∙ ap (remap_tree (cell_shifted P rows cols) (range_shifted P rows cols)) c.into_expr-expr.ensures.tree)
