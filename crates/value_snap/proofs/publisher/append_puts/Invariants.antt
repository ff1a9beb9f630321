use Rattle.std.proofs.Common.{◌≡◌, drop, take}
use Rattle.value_snap.specs.Showing.{put_operations}
use Rattle.value_snap.proofs.publisher.append_puts.Given as goal

abbrev pub invariant-loop-change : goal.invariant-loop-change
invariant-loop-change l = (l.writer.desk ≡ l.initial.writer.desk) × (drop l.writer.behind l.writer.log.items ≡ put_operations (take l.change-index l.changes))
