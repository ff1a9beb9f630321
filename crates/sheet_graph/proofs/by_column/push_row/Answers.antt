use Rattle.std.proofs.Common.{◌∙◌, ◌++◌, List, ℕ, [], ◌∷◌, take, sym, ap, subst, arith, slice_set, slice_index_or}
use Rattle.std.proofs.lemmas.List.{take_more, take_all, length-set, get_or_default}
use Rattle.sheet_grid.specs.Values.{placed_in}
use Rattle.sheet_grid.specs.Cells.{visible_size}
use Rattle.sheet_graph.specs.Filled.{AreFilledTo}
use Rattle.sheet_graph.proofs.Building.{at_in, not_before}
use Rattle.sheet_graph.proofs.Gathered.{one_more, row_gathered}
use Rattle.sheet_graph.proofs.by_column.push_row.Goals as goal

pub bounds-lists-col : goal.bounds-lists-col
bounds-lists-col c =
    let inside = c.requires.filled.below _ (at_in c.args.cols.now c.loop-col.col-index 0 c.loop-col-test.true) in
    let same = c.loop-col.invariant.len in
    let all = c.requires.len in
    omega (arith, inside, same, all)

pub loop-col-preserved : goal.loop-col-preserved
loop-col-preserved c = record {
  len = length-set c.loop-col.lists (slice_index_or c.args.cols.now c.loop-col.col-index 0) c.push.new.self ∙ c.loop-col.invariant.len;
  lists = subst (λ (cs : List ℕ). AreFilledTo (placed_in c.args.sheet.now) c.args.row cs (slice_set c.loop-col.lists (slice_index_or c.args.cols.now c.loop-col.col-index 0) c.push.new.self)) (sym (take_more c.args.cols.now c.loop-col.col-index 0 c.loop-col-test.true))
      (one_more (placed_in c.args.sheet.now) c.args.row (take c.loop-col.col-index c.args.cols.now) c.loop-col.lists c.loop-col.invariant.lists (slice_index_or c.args.cols.now c.loop-col.col-index 0)
      (not_before c.args.cols.now c.loop-col.col-index 0 c.requires.filled.distinct c.loop-col-test.true)
      (let inside = c.requires.filled.below _ (at_in c.args.cols.now c.loop-col.col-index 0 c.loop-col-test.true) in
      let same = c.loop-col.invariant.len in
      let all = c.requires.len in
      omega (arith, inside, same, all))
      c.push.new.self
      (c.in_ok-push.ensures ∙ ap (λ (rs : List ℕ). rs ++ c.args.row ∷ []) (get_or_default c.loop-col.lists (slice_index_or c.args.cols.now c.loop-col.col-index 0) c.index-lists-col.result []
      (let inside = c.requires.filled.below _ (at_in c.args.cols.now c.loop-col.col-index 0 c.loop-col-test.true) in
      let same = c.loop-col.invariant.len in
      let all = c.requires.len in
      omega (arith, inside, same, all)))));
}

pub returns-clause-lists : goal.returns-clause-lists
returns-clause-lists c =
    row_gathered (placed_in c.args.sheet.now) c.args.row c.args.cols.now c.loop-col.lists
    (subst (λ (cs : List ℕ). AreFilledTo (placed_in c.args.sheet.now) c.args.row cs c.loop-col.lists) (take_all c.loop-col.col-index c.args.cols.now c.loop-col-test.false) c.loop-col.invariant.lists)
    (visible_size (placed_in c.args.sheet.now)).cols c.requires.filled (c.loop-col.invariant.len ∙ c.requires.len)
