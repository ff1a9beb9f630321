-- A history as a book sees it: beside each entry the pass of its site, and its number among the entries of that site.
use Rattle.std.specs.Prelude.{List, [], ◌∷◌, ◌++◌, length}
use Rattle.turn_book.specs.declared.kept.Made.{Made}
use Rattle.sheet_ops.specs.declared.operation.Entry.{Entry}
use Rattle.sheet_ops.specs.History.{own_entries}

-- an entry after some others
abbrev pub book_entry : List Entry → Entry → Made Entry
book_entry before e = record { pass = e.site.0; number = length (own_entries e.site.0 before); item = e }

-- entries after some others
abbrev pub book_entries_from : List Entry → List Entry → List (Made Entry)
book_entries_from before [] = []
book_entries_from before (e ∷ es) = book_entry before e ∷ book_entries_from (before ++ e ∷ []) es

abbrev pub book_entries : List Entry → List (Made Entry)
book_entries H = book_entries_from [] H
