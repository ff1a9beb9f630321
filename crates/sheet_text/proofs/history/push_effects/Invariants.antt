use Rattle.std.proofs.Common.{◌≡◌, ◌++◌, take}
use Rattle.sheet_text.specs.Operations.{effect_text, numbered}
use Rattle.sheet_text.proofs.history.push_effects.Given as goal

abbrev pub invariant-loop-i : goal.invariant-loop-i
invariant-loop-i l = l.out.items ≡ l.initial.out.items ++ numbered effect_text 1 (take l.i l.effects)
