use Rattle.formula_print.proofs.Calls.{both_appended}
use Rattle.sheet_text.specs.Operations.{effect_text}
use Rattle.sheet_text.proofs.Appended.{numbered_more}
use Rattle.sheet_text.proofs.history.push_effects.Goals as goal

pub loop-i-preserved : goal.loop-i-preserved
loop-i-preserved c =
    both_appended c.args.out.now.items _ _ _ _ c.loop-i.out.items c.push_number.new.out.items c.push_effect.new.out.items
    c.loop-i.invariant c.in_ok-push_number.ensures c.in_ok-push_effect.ensures
    (numbered_more effect_text c.args.effects.now c.loop-i.i c.index-effects-i.result c.loop-i-test.true c.index-effects-i.is)
