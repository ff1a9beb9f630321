-- What a pull does.
use Rattle.std.specs.Prelude.{◌≡◌, ◌≤◌, ◌+◌, ℕ, List, take, drop}
use Rattle.ss_base.specs.Lists.{IsPrefixOf}
use Rattle.sheet_ops.specs.declared.operation.Entry.{Entry}
use Rattle.sheet_ops.specs.History.{own_entries, IsValidHistory}
use Rattle.sheet_ops.specs.Represents.{ClientState, ClientRepresents}
use Rattle.jup_client.specs.declared.Down.{Down}
use Rattle.hub.specs.Messages.{messages_of}

-- The messages are those of a history from what the client has taken on, and the client represents that history beside these own
-- entries.
pub record AreNextMessages (c : ClientState) (H G : List Entry) (downs : List Down) : Type 0 where
  pub sites : ℕ
  pub few : sites ≤ 8
  pub valid : IsValidHistory c.size sites H
  pub own : IsPrefixOf (own_entries c.site H) G
  pub represents : ClientRepresents c H G
  pub messages : (most : ℕ) × (downs ≡ take most (drop c.taken (messages_of c.size H c.site)))

-- the client has taken so many entries more, and is that of the same site
pub record HasTakenMore (count : ℕ) (old new : ClientState) : Type 0 where
  pub site : new.site ≡ old.site
  pub size : new.size ≡ old.size
  pub issued : new.issued ≡ old.issued
  pub taken : new.taken ≡ old.taken + count
