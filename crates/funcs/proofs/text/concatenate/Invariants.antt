use Rattle.std.proofs.Common.{◌≡◌, [], map, drop}
use Rattle.funcs.specs.Steps.{all_of}
use Rattle.funcs.specs.Args.{text}
use Rattle.funcs.proofs.Joined.{joined}
use Rattle.funcs.proofs.text.concatenate.Given as goal

abbrev pub invariant-loop-a : goal.invariant-loop-a
invariant-loop-a g l =
    joined [] (all_of (map (λ a. text (g.L.Look.environment l.look) a) l.args))
    ≡ joined l.joined.items (all_of (map (λ a. text (g.L.Look.environment l.look) a) (drop l.a-index l.args)))
