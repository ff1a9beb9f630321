-- The rule of the log of what was published, and what its steps tell.
use Rattle.std.specs.Prelude.{ℕ, ◌≡◌, ◌==◌, true, List, [], ◌∷◌, ◌++◌, length, MatchBool}
use Rattle.logbook.specs.Pages.{Cell, Step, View, Book, Named}
use Rattle.value_snap.specs.declared.published.Published.{Published}
use Rattle.value_snap.specs.Lists.{IsOrdered}

-- the first word is the length of the log, which is in order
pub record IsListed (cells : List Cell) (list : List Published) : Type 0 where
  pub words : cells ≡ (length list, true) ∷ (0, true) ∷ []
  pub ordered : IsOrdered list

abbrev pub head_of : Book → Named
head_of book = record { tracked = true; key = 0; book = book }

-- the entry stands behind all that was seen; or the list was longer
abbrev pub Adds : Step Published → View Published ℕ → ℕ → View Published ℕ → Type 0
Adds s v found w = MatchBool (found == s.old) ((w.0 ≡ v.0 ++ s.ask ∷ []) × IsOrdered w.0) (Unit {0})

-- which list it is, and what was seen of it
pub record FrontOf : Type 0 where
  pub book : Book
  pub list : List Published
