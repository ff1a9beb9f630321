use Rattle.std.proofs.Common.{◌≡◌, ◌++◌, take}
use Rattle.std.specs.List.{flat_map}
use Rattle.sheet_graph.specs.Placing.{stored_areas}
use Rattle.sheet_graph.proofs.references.+refer.Given as goal

abbrev pub invariant-push_all-loop-e : goal.invariant-push_all-loop-e
invariant-push_all-loop-e l = l.areas.items ≡ l.initial.areas.items ++ flat_map (stored_areas l.sheet) (take l.e-index l.exprs)
