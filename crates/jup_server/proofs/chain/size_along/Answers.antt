use Rattle.std.proofs.Common.{ap, ◌∙◌, arith}
use Rattle.ss_base.specs.declared.types.Size.{Size}
use Rattle.jup_server.proofs.Along.{front_small, along_next}
use Rattle.jup_server.proofs.chain.size_along.Goals as goal

pub step_past-size-requires-clause-rows : goal.step_past-size-requires-clause-rows
step_past-size-requires-clause-rows c = let h = front_small c.args.base c.args.chain.now.items c.loop-i.i in omega (arith, h.0, c.requires.rows, ap (λ (z : Size). z.rows) c.loop-i.invariant)

pub step_past-size-requires-clause-cols : goal.step_past-size-requires-clause-cols
step_past-size-requires-clause-cols c = let h = front_small c.args.base c.args.chain.now.items c.loop-i.i in omega (arith, h.1, c.requires.cols, ap (λ (z : Size). z.cols) c.loop-i.invariant)

pub loop-i-preserved : goal.loop-i-preserved
loop-i-preserved c =
    c.step_past-size.ensures
    ∙ along_next c.args.base c.args.chain.now.items c.loop-i.i c.index-step.result.now (omega (arith, c.loop-i-test.true, c.requires.within)) c.index-step.ensures c.loop-i.size c.loop-i.invariant
