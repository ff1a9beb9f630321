use Rattle.std.proofs.Common.{◌≡◌, ◌++◌, take}
use Rattle.live_record.specs.Records.{logs_text}
use Rattle.live_record.proofs.text.push_logs.Given as goal

abbrev pub invariant-loop-k : goal.invariant-loop-k
invariant-loop-k l = l.out.items ≡ l.initial.out.items ++ logs_text (take l.k l.sites) (take l.k l.logs)
