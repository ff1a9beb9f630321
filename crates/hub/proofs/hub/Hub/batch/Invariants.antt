use Rattle.std.proofs.Common.{◌≡◌, ◌-◌, map}
use Rattle.std.specs.List.{range_with_len}
use Rattle.sheet_ops.specs.Published.{effect_at}
use Rattle.hub.proofs.hub.Hub.batch.Given as goal

abbrev pub invariant-loop-place : goal.invariant-loop-place
invariant-loop-place l = l.effects ≡ map (effect_at l.self.size l.self.entries) (range_with_len l.from (l.place - l.from))
