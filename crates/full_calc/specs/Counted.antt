-- How many visible lines stand before each position of an axis.
use Rattle.std.specs.Prelude.{ℕ, suc, ◌≡◌, ◌≤◌, length, Bool, true, false, List, [], ◌∷◌}

-- one number for each line, from one on, and one for the end
abbrev pub counts_from : ℕ → List Bool → List ℕ
counts_from n [] = n ∷ []
counts_from n (true ∷ marks) = n ∷ counts_from n marks
counts_from n (false ∷ marks) = n ∷ counts_from (suc n) marks

pub record AreCounts (marks : List Bool) (before : List ℕ) : Type 0 where
  pub few : length marks ≤ 16000
  pub each : before ≡ counts_from 0 marks
