use Rattle.std.proofs.Common.{◌∙◌, sym, Some, None, ap, get_or, arith}
use Rattle.std.proofs.lemmas.Option.{slice_get-get_or, slice_get_past}
use Rattle.sheet_value.specs.Tables.{Table}
use Rattle.full_calc.proofs.Evaluating.{one_more}
use Rattle.full_calc.proofs.evaluation.evaluate.Goals.{in-Some+in_ok-evaluate_node, in_default}
use Rattle.full_calc.proofs.evaluation.evaluate.Goals as goal

pub loop-n-preserved : goal.loop-n-preserved
loop-n-preserved g c =
    let n = get_or c.args.order.now c.loop-n.n-index 0 in
    elim c.match-get.branch [
      | in-Some+in_ok-evaluate_node w ↦
          (let l = rw w.in-Some.is at c.get.ensures.lookup in
          let found = slice_get-get_or c.args.nodes.now n w.in-Some.node.now l.3.0 ∙ ap Some (sym l.1) in
          let after = w.grid-is ∙ w.in_ok-evaluate_node.ensures.value in
          record {
            size = ap (λ (T : Table). T.size) after ∙ c.loop-n.invariant.size;
            count = let a = w.in_ok-evaluate_node.ensures.count in let b = c.loop-n.invariant.count in omega (arith, a, b);
            values = one_more c.args.lines.now.rows c.args.lines.now.cols c.args.nodes.now c.args.order.now c.loop-n.n-index c.args.grid.now c.loop-n.grid c.match-get.grid (Some w.in-Some.node.now) c.loop-n-test.true found c.loop-n.invariant.values after;
          })
      | in_default w ↦
          (let l = rw w.in_default.is at c.get.ensures.lookup in
          record {
            size = ap (λ (T : Table). T.size) w.grid-is ∙ c.loop-n.invariant.size;
            count = let b = c.loop-n.invariant.count in omega (arith, b);
            values = one_more c.args.lines.now.rows c.args.lines.now.cols c.args.nodes.now c.args.order.now c.loop-n.n-index c.args.grid.now c.loop-n.grid c.match-get.grid None c.loop-n-test.true (slice_get_past c.args.nodes.now n l.3) c.loop-n.invariant.values w.grid-is;
          })
    ]
