use Rattle.std.proofs.Common.{◌≡◌, map, take}
use Rattle.script_run.proofs.run.names_of.Given as goal

abbrev pub invariant-loop-seat : goal.invariant-loop-seat
invariant-loop-seat l = l.names.items ≡ map (λ s. s.name) (take l.seat-index l.seats)
