use Rattle.std.proofs.Common.{◌∙◌, arith, None, sym}
use Rattle.formula_read.proofs.Stepping.{found_more, reach_more, found_first, found_end}
use Rattle.formula_read.proofs.Walk.{found_size}
use Rattle.formula_read.proofs.lexer.scan.Goals as goal

pub loop-i-init : goal.loop-i-init
loop-i-init c = record { found = found_first c.args.text.now; reach = omega arith }

pub loop-i-preserved : goal.loop-i-preserved
loop-i-preserved c =
    let at = c.loop-i.i in
    let text = c.args.text.now in
    let next = sym c.in-Some.is ∙ c.step.ensures in
    let found = found_more text at c.loop-i.state c.loop-i.found c.loop-i-test.true _ _ c.kind_at.ensures next c.loop-i.invariant.found in
    record {
      found = rw c.latest-found.ensures found;
      reach = reach_more text at c.loop-i.state c.loop-i.found c.loop-i-test.true _ next c.loop-i.invariant.reach;
    }

pub returns-in-None-clause-some : goal.returns-in-None-clause-some
returns-in-None-clause-some c =
    let found = found_more c.args.text.now c.loop-i.i c.loop-i.state c.loop-i.found c.loop-i-test.true _ None c.kind_at.ensures (sym c.in-None.is ∙ c.step.ensures) c.loop-i.invariant.found in
    found_size c.args.text.now c.latest-found.result (found ∙ sym c.latest-found.ensures)

pub returns-clause-some : goal.returns-clause-some
returns-clause-some c =
    let found = found_end c.args.text.now c.loop-i.i c.loop-i.state c.loop-i.found _ (omega arith) c.kind_at-2.ensures c.loop-i.invariant.found in
    found_size c.args.text.now c.latest.result (found ∙ sym c.latest.ensures)
