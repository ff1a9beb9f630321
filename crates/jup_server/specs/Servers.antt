-- What a server keeps, and what comes of each message.
use Rattle.std.specs.Prelude.{ℕ, suc, ◌≡◌, ◌<◌, ◌≤◌, ◌+◌, ◌-◌, ◌++◌, ◌⊎◌, nat_eq, Bool, if◌then◌else◌, List, [], ◌∷◌, length, take, drop, reverse, Option, None, Some, slice_index_or}
use Rattle.ss_base.specs.declared.types.Size.{Size}
use Rattle.sheet_ops.specs.declared.operation.Entry.{Entry}
use Rattle.sheet_ops.specs.declared.operation.Intent.{Intent}
use Rattle.sheet_ops.specs.declared.operation.Effect.{Effect}
use Rattle.sheet_ops.specs.Naming.{operations_of, effect_of_intent}
use Rattle.sheet_ops.specs.Fits.{IntentFits}
use Rattle.sheet_ops.specs.Placed.{size_of}
use Rattle.sheet_ops.specs.Chains.{size_past, sizes_past, PassesChain}
use Rattle.sheet_ops.specs.History.{own_entries, operations}
use Rattle.sheet_ops.specs.Represents.{last_seen, view_at, LinkState, ServerState, ServerRepresents}
use Rattle.sheet_ops.specs.declared.operation.Up.{Up}
use Rattle.sheet_ops.specs.Misfits.{misfit, intent_tests}
use Rattle.jup_server.specs.declared.SubmitErr.{SubmitErr}
use Rattle.jup_server.specs.declared.SubmitErr.TheVariants as fault

-- ---- what is kept
-- a link with one step more in its chain: the effect of another's entry, or nothing for an own one
abbrev pub link_sent : Bool → Effect → LinkState → LinkState
link_sent own e l = record l { chain = l.chain ++ (if own then None else Some e) ∷ [] }

-- the links from a place on, each with one step more; the own one stands at a place
abbrev pub links_sent : ℕ → ℕ → Effect → List LinkState → List LinkState
links_sent at own e [] = []
links_sent at own e (l ∷ ls) = link_sent (nat_eq at own) e l ∷ links_sent (suc at) own e ls

-- the link of a site with nothing in the history
abbrev pub new_link : Size → LinkState
new_link size = record { seen = 0; issued = 0; base = size; chain = [] }

-- what is kept of a site; sites count from 1
abbrev pub no_link : LinkState
no_link = record { seen = 0; issued = 0; base = record { rows = 0; cols = 0 }; chain = [] }

abbrev pub link_at : ServerState → ℕ → LinkState
link_at s site = slice_index_or s.links (site - 1) no_link

-- the size of a site's view when it had taken so many entries
abbrev pub seen_size : LinkState → ℕ → Size
seen_size l seen = sizes_past l.base (take (seen - l.seen) l.chain)

-- the size that a step of a chain leaves
abbrev pub step_past : Size → Option Effect → Size
step_past s None = s
step_past s (Some e) = size_past s e

-- it stands for a history
pub record IsServer (s : ServerState) : Type 0 where
  pub rows : s.size.rows ≤ 1000
  pub cols : s.size.cols ≤ 64
  pub sites : s.sites ≤ 8
  pub history : (H : List Entry) × ServerRepresents s H

-- the entry that a site's message becomes
abbrev pub entry_of : ℕ → Up → Entry
entry_of site up = record { site = record { 0 = site }; seen = up.seen; intent = up.intent }

-- ---- why an entry may not come next in a history of so many sites
abbrev pub IsSite : ℕ → Entry → Type 0
IsSite sites e = (0 < e.site.0) × (e.site.0 ≤ sites)

-- its site has an operation left
abbrev pub HasLeft : List Entry → Entry → Type 0
HasLeft H e = operations (own_entries e.site.0 H) + operations_of e.intent ≤ 1000

-- what its site's last entry had seen, and 0 where there is none
abbrev pub low_of : List Entry → Entry → ℕ
low_of H e = last_seen (reverse (own_entries e.site.0 H))

abbrev pub IsInReach : List Entry → Entry → Type 0
IsInReach H e = (low_of H e ≤ e.seen) × (e.seen ≤ length H)

-- the index of the first of its numbers that isn't in the view which its author had
abbrev pub entry_misfit : Size → List Entry → Entry → Option ℕ
entry_misfit size H e = misfit (intent_tests (size_of (view_at size H e.site.0 e.seen)) e.intent)

-- each cause where none before it holds
abbrev pub IsRefused : Size → ℕ → List Entry → Entry → SubmitErr → Type 0
IsRefused size sites H e fault.NoSite = (e.site.0 ≡ 0) ⊎ (sites < e.site.0)
IsRefused size sites H e fault.Spent = IsSite sites e × (1000 < operations (own_entries e.site.0 H) + operations_of e.intent)
IsRefused size sites H e (fault.BadSeen seen low high) = IsSite sites e × HasLeft H e × (seen ≡ e.seen) × (low ≡ low_of H e) × (high ≡ length H) × ((seen < low) ⊎ (high < seen))
IsRefused size sites H e (fault.BadPlace k) = IsSite sites e × HasLeft H e × IsInReach H e × (entry_misfit size H e ≡ Some k)
IsRefused size sites H e fault.Memory = ⊥

-- no cause holds
abbrev pub IsAdmitted : Size → ℕ → List Entry → Entry → Type 0
IsAdmitted size sites H e = (x : SubmitErr) → IsRefused size sites H e x → ⊥

-- the same by what is kept of the site
pub record MayTake (s : ServerState) (site : ℕ) (up : Up) : Type 0 where
  pub from : 0 < site
  pub to : site ≤ s.sites
  pub few : (link_at s site).issued < 1000
  pub low : (link_at s site).seen ≤ up.seen
  pub high : up.seen ≤ s.count
  pub fits : IntentFits (seen_size (link_at s site) up.seen) up.intent

-- ---- a link after an operation of its site, which had seen so many entries, and that operation in the sheet
pub record IsNextLink (l : LinkState) (seen : ℕ) (op : Intent) (m : LinkState) (last : Intent) : Type 0 where
  pub fits : IntentFits (seen_size l seen) op
  pub passed : (done : List (Option Effect)) × PassesChain (seen_size l seen) op (drop (seen - l.seen) l.chain) done last
      × (m ≡ record { seen = seen; issued = l.issued + 1; base = size_past (seen_size l seen) (effect_of_intent op); chain = done ++ None ∷ [] })
