-- What a push does.
use Rattle.std.specs.Prelude.{◌≡◌, ◌<◌, ◌≤◌, ℕ, List, [], ◌∷◌, ◌++◌}
use Rattle.ss_base.specs.declared.types.Site.{Site}
use Rattle.ss_base.specs.Lists.{IsPrefixOf}
use Rattle.sheet_ops.specs.declared.operation.Entry.{Entry}
use Rattle.sheet_ops.specs.declared.operation.Up.{Up}
use Rattle.sheet_ops.specs.History.{own_entries, IsValidHistory}
use Rattle.sheet_ops.specs.Represents.{ClientState, ClientRepresents}
use Rattle.jup_server.specs.Servers.{entry_of}
use Rattle.turn_book.specs.Entries.{made_by}
use Rattle.turn_book.specs.Passes.{PassOf}
use Rattle.hub.specs.Hubs.{HubOf, opening_of}
use Rattle.hub.specs.BookEntries.{book_entries}
use Rattle.live_session.specs.Sessions.{entries_by}

-- entries go behind the history of a hub, in order
abbrev pub with_entries : HubOf → List Entry → HubOf
with_entries hub es = record hub { entries = hub.entries ++ es }

-- the first of the messages that wait went behind the history, and the others are left
pub record PushesFirst (site : Site) (old new : HubOf) (waiting left : List Up) : Type 0 where
  pub up : Up
  pub hub_is : new ≡ with_entries old (entry_of site.0 up ∷ [])
  pub split : waiting ≡ up ∷ left

-- some of the messages that wait went behind the history, in their order, and the others are left
pub record Pushes (site : Site) (old new : HubOf) (waiting left : List Up) : Type 0 where
  pub pushed : List Up
  pub hub_is : new ≡ with_entries old (entries_by site pushed)
  pub split : waiting ≡ pushed ++ left

-- the first of the messages that wait may come next
abbrev pub MayPushFirst : Site → HubOf → List Up → Type 0
MayPushFirst site hub [] = Unit {0}
MayPushFirst site hub (up ∷ ups) = IsValidHistory hub.size hub.sites (hub.entries ++ entry_of site.0 up ∷ [])

-- The replica of a site in a hold represents the history that is there, beside the own entries there and those that wait.
pub record StandsIn (hub : HubOf) (c : ClientState) (site : ℕ) (waiting : List Entry) : Type 0 where
  pub size : c.size ≡ hub.size
  pub site_is : c.site ≡ site
  pub from : 0 < c.site
  pub to : c.site ≤ hub.sites
  pub issued : c.issued ≤ 1000
  pub valid : IsValidHistory hub.size hub.sites hub.entries
  pub represents : ClientRepresents c hub.entries (own_entries c.site hub.entries ++ waiting)

-- what a pass finds in a hold: the opening is its own, the history begins with what it has seen, and its entries there are those
-- that it made
pub record Finds (p : PassOf Entry) (hub : HubOf) : Type 0 where
  pub opening : opening_of hub.size hub.sites ≡ p.opening
  pub seen : IsPrefixOf p.seen (book_entries hub.entries)
  pub made : made_by p.number (book_entries hub.entries) ≡ p.made
