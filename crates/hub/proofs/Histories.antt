-- A history as a book sees it.
use Rattle.std.proofs.Common.{◌≡◌, ℕ, suc, Bool, true, false, nat_eq, List, [], ◌∷◌, ◌++◌, length, map, refl, ap, sym, ◌∙◌, append_assoc}
use Rattle.std.proofs.lemmas.List.{append-nil}
use Rattle.turn_book.specs.declared.kept.Made.{Made}
use Rattle.turn_book.specs.Entries.{made_by}
use Rattle.sheet_ops.specs.declared.operation.Entry.{Entry}
use Rattle.sheet_ops.specs.History.{own_entries}
use Rattle.hub.specs.BookEntries.{book_entries_from, book_entry}

pub length-book_entries_from : (before es : List Entry) → length (book_entries_from before es) ≡ length es
length-book_entries_from before [] = refl
length-book_entries_from before (e ∷ es) = ap suc (length-book_entries_from (before ++ e ∷ []) es)

pub items_of : (before es : List Entry) → map (λ (m : Made Entry). m.item) (book_entries_from before es) ≡ es
items_of before [] = refl
items_of before (e ∷ es) = ap (λ l. e ∷ l) (items_of (before ++ e ∷ []) es)

-- one more entry
pub book_entries_more : (before es : List Entry) (e : Entry) → book_entries_from before (es ++ e ∷ []) ≡ book_entries_from before es ++ book_entry (before ++ es) e ∷ []
book_entries_more before [] e = ap (λ l. book_entry l e ∷ []) (sym (append-nil before))
book_entries_more before (x ∷ es) e = ap (λ l. book_entry before x ∷ l) (book_entries_more (before ++ x ∷ []) es e ∙ ap (λ l. book_entries_from (before ++ x ∷ []) es ++ book_entry l e ∷ []) (append_assoc before (x ∷ []) es))

-- the entries of one pass are the own entries of its site
pub made_items : (site : ℕ) (before es : List Entry) → map (λ (m : Made Entry). m.item) (made_by site (book_entries_from before es)) ≡ own_entries site es
made_items site before [] = refl
made_items site before (e ∷ es) = by_side site before e es (nat_eq e.site.0 site) refl (made_items site (before ++ e ∷ []) es)
  where
    by_side : (site : ℕ) (before : List Entry) (e : Entry) (es : List Entry) (t : Bool) → nat_eq e.site.0 site ≡ t
        → map (λ (m : Made Entry). m.item) (made_by site (book_entries_from (before ++ e ∷ []) es)) ≡ own_entries site es
        → map (λ (m : Made Entry). m.item) (made_by site (book_entries_from before (e ∷ es))) ≡ own_entries site (e ∷ es)
    by_side site before e es true is rest = rw is (ap (λ l. e ∷ l) rest)
    by_side site before e es false is rest = rw is rest
