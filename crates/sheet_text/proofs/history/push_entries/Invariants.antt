use Rattle.std.proofs.Common.{◌≡◌, ◌++◌, take}
use Rattle.sheet_text.specs.Operations.{entry_text, numbered}
use Rattle.sheet_text.proofs.history.push_entries.Given as goal

abbrev pub invariant-loop-i : goal.invariant-loop-i
invariant-loop-i l = l.out.items ≡ l.initial.out.items ++ numbered (entry_text l.names) 1 (take l.i l.entries)
