use Rattle.std.proofs.Common.{[], length, ap, sym, ◌∙◌}
use Rattle.hub.specs.Hubs.{HubOf}
use Rattle.hub.specs.BookEntries.{book_entries}
use Rattle.hub.proofs.Histories.{length-book_entries_from}
use Rattle.hub.proofs.hub.HubKept.length.Goals as goal

pub returns : goal.returns
returns c = c.count.ensures ∙ (c.self.invariant.represents.count ∙ (sym (length-book_entries_from [] c.self.inside.history) ∙ ap (λ (h : HubOf). length (book_entries h.entries)) c.self.view_is))
