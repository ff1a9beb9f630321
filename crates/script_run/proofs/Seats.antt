-- The own entries of a site.
use Rattle.std.proofs.Common.{◌≡◌, ℕ, zero, suc, List, [], ◌∷◌, ◌++◌, drop, ap, ◌∙◌, Some}
use Rattle.std.specs.Prelude.{slice_get}
use Rattle.std.proofs.lemmas.List.{take-append-drop}
use Rattle.ss_base.specs.Lists.{IsPrefixOf}
use Rattle.sheet_ops.specs.declared.operation.Entry.{Entry}
use Rattle.sheet_ops.specs.History.{own_entries}
use Rattle.script_run.specs.declared.seat.Seat.{Seat}
use Rattle.script_run.specs.Runs.{EachOf, SeatStands}

pub of_site : (site : ℕ) (es : List Entry) (i : ℕ) (e : Entry) → EachOf site es → slice_get es i ≡ Some e → e.site.0 ≡ site
of_site site [] i e h k = absurd (cc)
of_site site (x ∷ es) zero e h k = let same : x ≡ e = cc in rw (← same) h.0
of_site site (x ∷ es) (suc i) e h k = of_site site es i e h.1 k

-- the own entries in the history are the first ones of a site
pub mine_first : (H : List Entry) (site : ℕ) (s : Seat) → SeatStands H site s → IsPrefixOf (own_entries site H) s.made
mine_first H site s holds = (drop s.pushed s.made, ap (λ (es : List Entry). es ++ drop s.pushed s.made) holds.mine ∙ take-append-drop s.pushed s.made)
