-- What a pass finds in a hub, and what it has seen when it leaves.
use Rattle.std.proofs.Common.{◌≡◌, ℕ, ◌≤◌, List, [], length, ap, sym, ◌∙◌, arith}
use Rattle.std.proofs.lemmas.List.{length-append, map-append}
use Rattle.ss_base.specs.declared.types.Size.{Size}
use Rattle.ss_base.specs.Lists.{IsPrefixOf}
use Rattle.sheet_ops.specs.declared.operation.Entry.{Entry}
use Rattle.turn_book.specs.declared.kept.Made.{Made}
use Rattle.hub.specs.BookEntries.{book_entries}
use Rattle.hub.specs.Hubs.{opening_of}
use Rattle.hub.proofs.Histories.{items_of, length-book_entries_from}
use Rattle.turn_book.specs.Passes.{items_in}

module _ (seen : List (Made Entry)) (H : List Entry) where
  -- no more was seen than there is
  pub seen_within : IsPrefixOf seen (book_entries H) → length seen ≤ length H
  seen_within p = omega (arith, length-append seen p.0, ap length p.1, length-book_entries_from [] H)

  -- the history begins with what was seen
  pub seen_begins : IsPrefixOf seen (book_entries H) → IsPrefixOf (items_in seen) H
  seen_begins p = (items_in p.0, sym (map-append (λ (m : Made Entry). m.item) seen p.0) ∙ (ap items_in p.1 ∙ items_of [] H))

  -- all of it was seen
  pub seen_whole : seen ≡ book_entries H → items_in seen ≡ H
  seen_whole is = ap items_in is ∙ items_of [] H

-- a hub's opening tells its size and its number of sites
pub opening_size : (a b : Size) (m n : ℕ) → opening_of a m ≡ opening_of b n → a ≡ b
opening_size a b m n same =
    let rows : a.rows ≡ b.rows = cc in
    let cols : a.cols ≡ b.cols = cc in
    λ i. record { rows = rows i; cols = cols i }

pub opening_sites : (a b : Size) (m n : ℕ) → opening_of a m ≡ opening_of b n → m ≡ n
opening_sites a b m n same = cc
