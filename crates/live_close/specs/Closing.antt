-- What is left once the book is closed.
use Rattle.std.specs.Prelude.{ℕ, suc, ◌≡◌, ◌≢◌, ◌≤◌, ◌<◌, List, [], length, map, All, slice_get, Some}
use Rattle.ss_base.specs.Lists.{IsPrefixOf}
use Rattle.sheet_ops.specs.declared.operation.Entry.{Entry}
use Rattle.sheet_ops.specs.History.{own_entries, IsValidHistory}
use Rattle.sheet_ops.specs.Represents.{ClientState, ClientRepresents}
use Rattle.turn_book.specs.Entries.{made_by}
use Rattle.turn_book.specs.Passes.{BookOf, PassOf, ClosedOf}
use Rattle.hub.specs.Hubs.{HubOf, opening_of}
use Rattle.hub.specs.BookEntries.{book_entries}
use Rattle.live_record.specs.Records.{HasTakenAll}

-- The book of a hub was closed with these passes.
pub record IsClosedBy (book : BookOf) (passes : List (PassOf Entry)) (c : ClosedOf HubOf) : Type 0 where
  pub opening : opening_of c.state.size c.state.sites ≡ book.opening
  pub seen : All (λ (p : PassOf Entry). IsPrefixOf p.seen (book_entries c.state.entries)) passes
  pub made : All (λ (p : PassOf Entry). made_by p.number (book_entries c.state.entries) ≡ p.made) passes
  pub held : All (λ (p : PassOf Entry). p.seen ≢ [] → 0 < p.holds) passes
  pub holds : c.holds ≡ map (λ (p : PassOf Entry). (p.number, p.holds)) passes

-- a client of a site may take what it lacks of the hub's history, in which all its own entries are
pub record MayTakeRest (hub : HubOf) (site : ℕ) (c : ClientState) : Type 0 where
  pub few : hub.sites ≤ 8
  pub valid : IsValidHistory hub.size hub.sites hub.entries
  pub number : c.site ≡ site
  pub to : site ≤ hub.sites
  pub sized : c.size ≡ hub.size
  pub within : c.taken ≤ length hub.entries
  pub represents : ClientRepresents c hub.entries (own_entries site hub.entries)

-- each client may
abbrev pub MayAllTakeRest : HubOf → List ClientState → Type 0
MayAllTakeRest hub cs = (k : ℕ) (c : ClientState) → slice_get cs k ≡ Some c → MayTakeRest hub (suc k) c

-- each client has taken all
pub record HaveTakenRest (hub : HubOf) (old new : List ClientState) : Type 0 where
  pub as_many : length new ≡ length old
  pub each : (k : ℕ) (c : ClientState) → slice_get new k ≡ Some c → HasTakenAll hub.size hub.entries (suc k) c
