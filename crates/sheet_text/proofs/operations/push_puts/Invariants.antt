use Rattle.std.proofs.Common.{◌≡◌, ◌++◌, take}
use Rattle.std.specs.List.{flat_map}
use Rattle.sheet_text.specs.Operations.{put_line}
use Rattle.sheet_text.proofs.operations.push_puts.Given as goal

abbrev pub invariant-loop-put : goal.invariant-loop-put
invariant-loop-put l = l.out.items ≡ l.initial.out.items ++ flat_map put_line (take l.put-index l.puts)
