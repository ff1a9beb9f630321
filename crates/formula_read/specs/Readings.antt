-- What a text reads as, and what its reader answers.
use Rattle.std.specs.Prelude.{ℕ, ◌≡◌, ◌<◌, ◌≤◌, List, length, take, Result, Ok, Err}
use Rattle.ss_base.specs.declared.types.Spot.{Spot}
use Rattle.ss_base.specs.declared.types.Span.{Span}
use Rattle.formula_tree.specs.Tree.{Tree}
use Rattle.formula_tree.specs.Grammar.{Stands, IsFormulaText, IsFront}
use Rattle.formula_read.specs.declared.kinds.ParseErr.{ParseErr}
use Rattle.formula_read.specs.declared.kinds.ParseErr.TheVariants.{At, Deep, Memory}

-- the length of the longest front of a text that some formula's text has, too
pub record IsLongestFormulaFront (bs : List ℕ) (p : ℕ) : Type 0 where
  pub within : p ≤ length bs
  pub front : IsFront (take p bs)
  pub longest : (q : ℕ) → q ≤ length bs → IsFront (take q bs) → q ≤ p

pub data Reading : Type 0 where
  formula : Tree Spot Span → ℕ → Reading  -- a formula: its tree, and the nesting of the text
  stops : ℕ → Reading  -- no formula: the length of its longest front that some formula's text has, too

abbrev pub IsReading : List ℕ → Reading → Type 0
IsReading bs (formula t n) = Stands bs t n
IsReading bs (stops p) = ¬ (IsFormulaText bs) × IsLongestFormulaFront bs p

-- the tree and the nesting are the answer, where the nesting is at most 64
abbrev pub ReadAs : Result (Tree Spot Span) ParseErr → Tree Spot Span → ℕ → Type 0
ReadAs (Ok f) t n = (f ≡ t) × (n ≤ 64)
ReadAs (Err Deep) t n = 64 < n
ReadAs (Err Memory) t n = Unit {0}
ReadAs (Err (At p)) t n = ⊥
