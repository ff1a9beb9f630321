-- The entries of a history, by the passes that made them.
use Rattle.std.specs.Prelude.{ℕ, ◌+◌, List, [], ◌∷◌, filter, nat_eq}
use Rattle.turn_book.specs.declared.kept.Made.{Made}

module _ {I : Type 0} where
  -- the entries that the pass of this number made, in their order
  abbrev pub made_by : ℕ → List (Made I) → List (Made I)
  made_by number entries = filter (λ e. nat_eq e.pass number) entries

  -- these items as entries of that pass, the first of them with this number among its entries
  abbrev pub entries_of : ℕ → ℕ → List I → List (Made I)
  entries_of pass first [] = []
  entries_of pass first (item ∷ items) = record { pass = pass; number = first; item = item } ∷ entries_of pass (first + 1) items
