-- When the notes of all sites are those of their lines beside one history, and the text of it.
use Rattle.std.specs.Prelude.{ℕ, suc, ◌≡◌, ◌≤◌, List, [], ◌∷◌, ◌++◌, length, take, map, codes, slice_get, Some}
use Rattle.std.specs.List.{flat_map}
use Rattle.ss_base.specs.declared.types.Size.{Size}
use Rattle.sheet_value.specs.Tables.{Table}
use Rattle.sheet_ops.specs.declared.operation.Entry.{Entry}
use Rattle.sheet_ops.specs.Identity.{IdSheet}
use Rattle.sheet_ops.specs.History.{own_entries, sheet_of, IsValidHistory}
use Rattle.sheet_ops.specs.Represents.{ClientState, ClientRepresents, ServerState, ServerRepresents}
use Rattle.sheet_text.specs.Shown.{shown}
use Rattle.sheet_text.specs.Texts.{sheet_text, head_text, server_head_text}
use Rattle.sheet_text.specs.Operations.{history_text}
use Rattle.sheet_text.specs.Values.{all_text}
use Rattle.full_calc.specs.Values.{value_table}
use Rattle.live_script.specs.declared.script.LiveScript.{LiveScript}
use Rattle.live_script.specs.declared.script.SiteScript.{SiteScript}
use Rattle.live_record.specs.declared.note.Note.{Note}
use Rattle.live_record.specs.Replays.{Beside, Done, nothing_done, Does}

-- what may be read of a history: at each of its lengths the values of so many first entries
abbrev pub ShowsPrefix : Size → List Entry → ℕ → Table → Type 0
ShowsPrefix size H l T = (l ≤ length H) × (T ≡ value_table (sheet_of size (take l H)))

abbrev pub beside_history : Size → List Entry → ℕ → List ℕ → Beside
beside_history size H site name = record { size = size; history = H; site = site; name = name; Shows = ShowsPrefix size H }

-- the notes of a site are those of its lines, its entries in the history are all that it made, and this is its log
abbrev pub SiteHolds : Size → List Entry → ℕ → SiteScript → List Note → List ℕ → Type 0
SiteHolds size H site s notes log = (end : Done) × Does (beside_history size H site s.name) s.lines nothing_done notes end × (end.own ≡ own_entries site H) × (end.log ≡ log)

-- the same for each site, numbered from one on, and there are no notes and no log of others
abbrev pub SitesHold : Size → List Entry → ℕ → List SiteScript → List (List Note) → List (List ℕ) → Type 0
SitesHold size H site [] [] [] = Unit {0}
SitesHold size H site (s ∷ sites) (ns ∷ notes) (log ∷ logs) = SiteHolds size H site s ns log × SitesHold size H (suc site) sites notes logs
SitesHold size H site _ _ _ = ⊥

-- the record of a script: a valid history of its sites, what they noted beside it, and what is logged by that
pub record IsRecord (s : LiveScript) (H : List Entry) (notes : List (List Note)) (logs : List (List ℕ)) : Type 0 where
  pub valid : IsValidHistory s.size (length s.sites) H
  pub hold : SitesHold s.size H 1 s.sites notes logs

-- ---- the text
-- `log NAME`, and below it the log
abbrev pub log_text : List ℕ → List ℕ → List ℕ
log_text name log = codes "log " ++ (name ++ 10 ∷ log)

abbrev pub logs_text : List SiteScript → List (List ℕ) → List ℕ
logs_text (s ∷ sites) (log ∷ logs) = log_text s.name log ++ logs_text sites logs
logs_text _ _ = []

-- the sheet of a history of this length on the replica of a site that has taken all, with nothing pending
abbrev pub replica_text : IdSheet → ℕ → SiteScript → List ℕ
replica_text X length s = sheet_text (head_text s.name length 0 (shown X)) (shown X)

abbrev pub names_of : List SiteScript → List (List ℕ)
names_of sites = map (λ (s : SiteScript). s.name) sites

-- the log of each site, the sheet of the history on each replica and on the server, its values, and the history
abbrev pub live_text : LiveScript → List Entry → List (List ℕ) → List ℕ
live_text s H logs =
    let X = sheet_of s.size H in
    logs_text s.sites logs
    ++ (flat_map (replica_text X (length H)) s.sites
    ++ (sheet_text (server_head_text (length H) (shown X)) (shown X)
    ++ (all_text (length H) (value_table X)
    ++ history_text (names_of s.sites) H)))

-- ---- what the text is printed from
-- the client of a site has taken all of the history, in which all its own entries are
pub record HasTakenAll (size : Size) (H : List Entry) (site : ℕ) (c : ClientState) : Type 0 where
  pub number : c.site ≡ site
  pub sized : c.size ≡ size
  pub taken : c.taken ≡ length H
  pub represents : ClientRepresents c H (own_entries site H)

-- the server stands for the history, and the client of each site, numbered from 1 on, has taken all of it
pub record AllHaveAll (size : Size) (H : List Entry) (server : ServerState) (clients : List ClientState) : Type 0 where
  pub sized : server.size ≡ size
  pub server_is : ServerRepresents server H
  pub each : (k : ℕ) (c : ClientState) → slice_get clients k ≡ Some c → HasTakenAll size H (suc k) c
