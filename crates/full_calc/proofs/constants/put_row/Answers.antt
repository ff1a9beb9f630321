use Rattle.std.proofs.Common.{◌<◌, sym, ◌∙◌, ap, subst, refl, arith, inl}
use Rattle.std.specs.Prelude.{slice_index_or}
use Rattle.ss_base.specs.declared.types.Size.{Size}
use Rattle.sheet_value.specs.Tables.{Table, value_at}
use Rattle.sheet_grid.specs.Values.{placed_in}
use Rattle.sheet_graph.specs.Graphs.{content_seen}
use Rattle.sheet_graph.proofs.Building.{at_in}
use Rattle.full_calc.specs.Shown.{HasItsSize}
use Rattle.full_calc.specs.Evaluated.{constant_of}
use Rattle.full_calc.proofs.Tables.{shaped_put, value_other}
use Rattle.full_calc.proofs.RowConstants.{none_yet, row_more, row_all}
use Rattle.full_calc.proofs.constants.put_row.Goals as goal

pub loop-col-init : goal.loop-col-init
loop-col-init c = record {
  size = refl;
  shape = c.requires.shape;
  here = none_yet (placed_in c.args.sheet.now) c.args.row c.args.grid.now c.requires.empty;
  others = λ r k n. refl;
}

pub put_constant-requires-clause-row : goal.put_constant-requires-clause-row
put_constant-requires-clause-row c = let e = ap (λ (s : Size). s.rows) c.loop-col.invariant.size in let h = c.requires.row in omega (arith, e, h)

pub put_constant-requires-clause-col : goal.put_constant-requires-clause-col
put_constant-requires-clause-col c =
    let e = ap (λ (s : Size). s.cols) (c.loop-col.invariant.size ∙ c.requires.size) in
    let h = c.requires.filled.below (slice_index_or c.args.cols.now c.loop-col.col-index 0) (at_in c.args.cols.now c.loop-col.col-index 0 c.loop-col-test.true) in
    omega (arith, e, h)

pub loop-col-preserved : goal.loop-col-preserved
loop-col-preserved c =
    let P = placed_in c.args.sheet.now in
    let col = slice_index_or c.args.cols.now c.loop-col.col-index 0 in
    let v = constant_of (content_seen P c.args.row col) in
    let rows = ap (λ (s : Size). s.rows) c.loop-col.invariant.size in
    let cols = ap (λ (s : Size). s.cols) (c.loop-col.invariant.size ∙ c.requires.size) in
    let row_in = c.requires.row in
    let col_in = c.requires.filled.below col (at_in c.args.cols.now c.loop-col.col-index 0 c.loop-col-test.true) in
    let h : c.args.row < c.loop-col.grid.size.rows = omega (arith, rows, row_in) in
    let k : col < c.loop-col.grid.size.cols = omega (arith, cols, col_in) in
    let after = c.in_ok-put_constant.ensures in
    record {
      size = ap (λ (T : Table). T.size) after ∙ c.loop-col.invariant.size;
      shape = subst (λ (T : Table). HasItsSize T) (sym after) (shaped_put c.loop-col.grid c.args.row col v c.loop-col.invariant.shape h k);
      here = row_more P c.args.row c.loop-col.grid c.put_constant.new.grid c.args.cols.now c.loop-col.col-index c.loop-col.invariant.shape h k c.loop-col-test.true c.loop-col.invariant.here after;
      others = λ r d n. ap (λ (T : Table). value_at T r d) after ∙ (value_other c.loop-col.grid c.args.row col v c.loop-col.invariant.shape h k r d (inl n) ∙ c.loop-col.invariant.others r d n);
    }

pub returns-clause-here : goal.returns-clause-here
returns-clause-here c = row_all (placed_in c.args.sheet.now) c.args.row c.loop-col.grid c.args.cols.now c.loop-col.col-index c.loop-col-test.false c.loop-col.invariant.here c.requires.filled
