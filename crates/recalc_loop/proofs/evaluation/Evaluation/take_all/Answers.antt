use Rattle.std.proofs.Common.{◌∙◌, arith}
use Rattle.recalc_loop.proofs.Evaluating.{may_fit, may_grow, short, taken, all_taken, sheet_taken, formed}
use Rattle.recalc_loop.proofs.evaluation.Evaluation.take_all.Goals as goal

pub take-requires-clause-fits : goal.take-requires-clause-fits
take-requires-clause-fits c =
    let (size, sites, H, next) = c.requires in
    may_fit size sites H c.args.self.now c.args.effects.now next c.loop-effect.self c.loop-effect.effect-index c.loop-effect.invariant.count (c.loop-effect.invariant.sheet size sites H next)
    c.loop-effect-test.true c.effect-item.result c.effect-item.is

pub take-requires-clause-room : goal.take-requires-clause-room
take-requires-clause-room c =
    let (size, sites, H, next) = c.requires in
    may_grow size sites H c.args.self.now c.args.effects.now next c.loop-effect.self c.loop-effect.effect-index c.loop-effect.invariant.count (c.loop-effect.invariant.sheet size sites H next)
    c.loop-effect-test.true c.effect-item.result c.effect-item.is

pub take-requires-clause-few : goal.take-requires-clause-few
take-requires-clause-few c =
    let (size, sites, H, next) = c.requires in
    short size sites H c.args.self.now c.args.effects.now next c.loop-effect.self c.loop-effect.effect-index c.loop-effect.invariant.count (c.loop-effect.invariant.sheet size sites H next)
    c.loop-effect-test.true c.effect-item.result c.effect-item.is

pub loop-effect-preserved : goal.loop-effect-preserved
loop-effect-preserved c = record {
  values = c.take.ensures.values ∙ c.loop-effect.invariant.values;
  count = let before = c.loop-effect.invariant.count in let one = c.in_ok-take.ensures.length in omega (arith, before, one);
  sheet = λ size sites H next. taken size sites H c.args.self.now c.args.effects.now next c.loop-effect.self c.loop-effect.effect-index c.loop-effect.invariant.count (c.loop-effect.invariant.sheet size sites H next)
      c.loop-effect-test.true c.effect-item.result c.effect-item.is c.take.new.self c.in_ok-take.ensures.length c.in_ok-take.ensures.step;
}

pub returns-clause-length : goal.returns-clause-length
returns-clause-length c size sites H next =
    all_taken size sites H c.args.self.now c.args.effects.now next c.loop-effect.self c.loop-effect.effect-index c.loop-effect.invariant.count (c.loop-effect.invariant.sheet size sites H next)
    c.loop-effect.auto.effect-index-end c.loop-effect-test.false

pub returns-clause-sheet : goal.returns-clause-sheet
returns-clause-sheet c size sites H next =
    sheet_taken size sites H c.args.self.now c.args.effects.now next c.loop-effect.self c.loop-effect.effect-index c.loop-effect.invariant.count (c.loop-effect.invariant.sheet size sites H next)
    c.loop-effect.auto.effect-index-end c.loop-effect-test.false

pub returns-clause-formed : goal.returns-clause-formed
returns-clause-formed c size sites H next = formed size sites H c.args.self.now c.args.effects.now next
