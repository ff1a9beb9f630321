use Rattle.std.proofs.Common.{◌∙◌, arith}
use Rattle.sheet_graph.specs.Cursor.{area_found, area_next}
use Rattle.sheet_graph.proofs.areas.next_in_area.Goals as goal

pub loop-col-preserved : goal.loop-col-preserved
loop-col-preserved c = record {
  left = let l = c.loop-col.invariant.left in omega arith;
  same = c.loop-col.invariant.same ∙ area_next c.args.columns.now c.args.area.now c.loop-col.col c.loop-col-test.true c.in_default.ensures;
}

pub returns-in-Some : goal.returns-in-Some
returns-in-Some c = (
  c.in-Some.ensures.0,
  c.loop-col.invariant.same ∙ area_found c.args.columns.now c.args.area.now c.loop-col.col c.in-Some.run' c.loop-col-test.true c.loop-col.invariant.left c.in-Some.ensures.1,
)
