-- What contracts see of a book and its passes.
use Rattle.std.specs.Prelude.{◌≡◌, ℕ, List, [], ◌++◌, map, length, All, IsPermutation}
use Rattle.std.specs.List.{range_with_len}
use Rattle.atomic_table.specs.Seated.{TableId}
use Rattle.turn_book.specs.Entries.{entries_of}
use Rattle.turn_book.specs.declared.kept.Made.{Made}

-- what no other book has
abbrev pub BookId : Type 0
BookId = TableId

-- which book it is, the opening of its state, and how many passes it gave out
pub record BookOf : Type 0 where
  pub id : BookId
  pub opening : List ℕ
  pub passes : ℕ

-- which book it is of, its number and that book's opening, which never change; the beginning of the history that it has
-- seen, the entries that it has made, and how many of its holds have ended
pub record PassOf (I : Type 0) : Type 0 where
  pub book : BookId
  pub number : ℕ
  pub opening : List ℕ
  pub seen : List (Made I)
  pub made : List (Made I)
  pub holds : ℕ

-- the pass that has the state, the history that it found, and the state as it is now
pub record HeldOf (S I : Type 0) : Type 0 where
  pub pass : PassOf I
  pub found : List (Made I)
  pub state : S

-- the state at the end, and beside the number of each pass how many holds it had
pub record ClosedOf (S : Type 0) : Type 0 where
  pub state : S
  pub holds : List (ℕ × ℕ)

-- the hold with another state
abbrev pub with_state : {S I : Type 0} → HeldOf S I → S → HeldOf S I
with_state held state = record held { state = state }

module _ {I : Type 0} where
  -- a pass that has seen nothing and made nothing, with no holds
  abbrev pub new_pass : BookOf → ℕ → PassOf I
  new_pass book number = record { book = book.id; number = number; opening = book.opening; seen = []; made = []; holds = 0 }

  -- the passes of a new book, in the order of their numbers
  abbrev pub new_passes : BookOf → List (PassOf I)
  new_passes book = map (new_pass book) (range_with_len 0 book.passes)

  -- what is written down by a list of entries, in order
  abbrev pub items_in : List (Made I) → List I
  items_in ms = map (λ (m : Made I). m.item) ms

  -- what the history says that a pass has seen, and what the pass made
  abbrev pub seen_by : PassOf I → List I
  seen_by p = items_in p.seen

  abbrev pub made_in : PassOf I → List I
  made_in p = items_in p.made

  -- the same pass, which may have seen and made more
  pub record IsSamePass (old new : PassOf I) : Type 0 where
    pub book : new.book ≡ old.book
    pub number : new.number ≡ old.number
    pub opening : new.opening ≡ old.opening

  -- the history is the one found, followed by entries of this pass alone
  abbrev pub AddsOwn : PassOf I → List (Made I) → List (Made I) → Type 0
  AddsOwn pass found history = (items : List I) × (history ≡ found ++ entries_of pass.number (length pass.made) items)

  -- they are passes of this book
  abbrev pub AreOf : BookOf → List (PassOf I) → Type 0
  AreOf book passes = All (λ (p : PassOf I). p.book ≡ book.id) passes

  -- their numbers are those that the book gave out, each once
  abbrev pub AreAll : BookOf → List (PassOf I) → Type 0
  AreAll book passes = IsPermutation (range_with_len 0 book.passes) (map (λ (p : PassOf I). p.number) passes)
