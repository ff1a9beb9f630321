use Rattle.std.proofs.Common.{◌≡◌, ℕ, List, ◌++◌, map, take, drop, Some}
use Rattle.live_script.specs.SoFar.{with_action, action_for_all}
use Rattle.live_script.proofs.lines.add_each.Given as goal

abbrev pub invariant-loop-site : goal.invariant-loop-site
invariant-loop-site l =
    l.site-items ≡ map (with_action l.number (λ (site : List ℕ). Some (action_for_all l.what))) (take l.site-index l.initial.site-items) ++ drop l.site-index l.initial.site-items
