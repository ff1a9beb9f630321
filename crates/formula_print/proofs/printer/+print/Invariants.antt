use Rattle.std.proofs.Common.{◌≡◌, ◌++◌, take}
use Rattle.formula_print.specs.Arguments.{parted_texts}
use Rattle.formula_print.proofs.printer.+print.Given as goal

abbrev pub invariant-push_arguments-loop-i : goal.invariant-push_arguments-loop-i
invariant-push_arguments-loop-i l = l.out.items ≡ l.initial.out.items ++ parted_texts (take l.i l.args)
