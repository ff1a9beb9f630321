use Rattle.std.proofs.Common.{◌≡◌, ◌-◌, map}
use Rattle.std.specs.List.{range_with_len}
use Rattle.jup_client.specs.Clients.{down_at}
use Rattle.hub.proofs.hub.Hub.fetch.Given as goal

abbrev pub invariant-loop-place : goal.invariant-loop-place
invariant-loop-place l = l.downs ≡ map (down_at l.self.size l.self.entries l.site.0) (range_with_len l.first (l.place - l.first))
