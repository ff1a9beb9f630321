use Rattle.std.proofs.Common.{sym, ◌∙◌}
use Rattle.sheet_ops.proofs.Visible.{visible_below}
use Rattle.sheet_grid.specs.Cells.{formula_of}
use Rattle.sheet_grid.specs.Values.{placed_in, stored_at}
use Rattle.sheet_graph.proofs.StoredCells.{each_found, none_found, formula_there, none_there}
use Rattle.sheet_graph.proofs.cells.formula_seen.Goals as goal

pub rec_number-requires : goal.rec_number-requires
rec_number-requires c = visible_below (placed_in c.args.sheet.now).rows c.args.row c.in_ok-p.p (sym c.in_ok-p.ensures)

pub col_number-requires : goal.col_number-requires
col_number-requires c = visible_below (placed_in c.args.sheet.now).cols c.args.col c.in_ok-q.q (sym c.in_ok-q.ensures)

pub returns-clause-formula : goal.returns-clause-formula
returns-clause-formula c =
    let V = c.args.sheet.now in
    let h = visible_below (placed_in V).rows c.args.row c.in_ok-p.p (sym c.in_ok-p.ensures) in
    let j = visible_below (placed_in V).cols c.args.col c.in_ok-q.q (sym c.in_ok-q.ensures) in
    each_found c.stored.result
    (λ f e. formula_there V c.size-size.ensures.whole c.args.row c.args.col c.in_ok-p.p c.in_ok-q.q c.in_ok-p.ensures c.in_ok-q.ensures h j f.now
    ((λ i. stored_at V.cells (sym c.rec_number.ensures.number i) (sym c.col_number.ensures.number i)) ∙ e))
    c.stored.ensures.formula

pub returns-clause-none : goal.returns-clause-none
returns-clause-none c =
    let V = c.args.sheet.now in
    let h = visible_below (placed_in V).rows c.args.row c.in_ok-p.p (sym c.in_ok-p.ensures) in
    let j = visible_below (placed_in V).cols c.args.col c.in_ok-q.q (sym c.in_ok-q.ensures) in
    none_found c.stored.result
    (λ e. none_there V c.size-size.ensures.whole c.args.row c.args.col c.in_ok-p.p c.in_ok-q.q c.in_ok-p.ensures c.in_ok-q.ensures h j
    ((λ i. formula_of (stored_at V.cells (sym c.rec_number.ensures.number i) (sym c.col_number.ensures.number i))) ∙ e))
    c.stored.ensures.none
