use Rattle.std.proofs.Common.{◌≡◌, map, take}
use Rattle.live_record.proofs.text.names_of.Given as goal

abbrev pub invariant-loop-site : goal.invariant-loop-site
invariant-loop-site l = l.names.items ≡ map (λ s. s.name) (take l.site-index l.sites)
