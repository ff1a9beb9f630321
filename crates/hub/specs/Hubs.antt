-- What contracts see of a hub, and what it keeps.
use Rattle.std.specs.Prelude.{◌≡◌, ◌≤◌, ℕ, Bool, List, [], ◌∷◌, length, filter}
use Rattle.ss_base.specs.declared.types.Size.{Size}
use Rattle.sheet_ops.specs.declared.operation.Effect.{Effect}
use Rattle.sheet_ops.specs.declared.operation.Entry.{Entry}
use Rattle.sheet_ops.specs.Represents.{ServerState, ServerRepresents}
use Rattle.hub.specs.Messages.{effects_of}

-- the size of the opening sheet, the number of sites, the history, and of each site, from 1 to 8, whether it has ended
pub record HubOf : Type 0 where
  pub size : Size
  pub sites : ℕ
  pub entries : List Entry
  pub ended : List Bool

-- the opening, as a book sees it
abbrev pub opening_of : Size → ℕ → List ℕ
opening_of size sites = size.rows ∷ size.cols ∷ sites ∷ []

-- how many sites have ended
abbrev pub ended_count : List Bool → ℕ
ended_count ended = length (filter (λ is_ended. is_ended) ended)

-- the server stands for the history, beside which its effects are kept
pub record IsHub (server : ServerState) (entries : List Entry) (effects : List Effect) : Type 0 where
  pub represents : ServerRepresents server entries
  pub effects_are : effects ≡ effects_of server.size entries
  pub few : server.sites ≤ 8
