-- What may be answered where a text is read.
use Rattle.std.specs.Prelude.{ℕ, List, Result}
use Rattle.ss_base.specs.declared.types.Spot.{Spot}
use Rattle.ss_base.specs.declared.types.Span.{Span}
use Rattle.formula_tree.specs.Tree.{Tree}
use Rattle.formula_tree.specs.Grammar.{Stands}
use Rattle.formula_read.specs.declared.kinds.ParseErr.{ParseErr}
use Rattle.formula_read.specs.Readings.{ReadAs}

-- what `parse` promises of its answer on a text in the grammar
abbrev pub IsAnswer : List ℕ → Result (Tree Spot Span) ParseErr → Type 0
IsAnswer bs answer = (t : Tree Spot Span) (n : ℕ) → Stands bs t n → ReadAs answer t n
