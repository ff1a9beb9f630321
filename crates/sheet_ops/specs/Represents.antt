-- What a client and what a server represent.
use Rattle.std.specs.Prelude.{ℕ, suc, ◌≡◌, ◌≤◌, nat_eq, nat_le, Bool, if◌then◌else◌, List, [], ◌∷◌, ◌++◌, length, take, reverse, Option, slice_index_or}
use Rattle.ss_base.specs.declared.types.Size.{Size}
use Rattle.sheet_ops.specs.declared.operation.Effect.{Effect}
use Rattle.sheet_ops.specs.declared.operation.Entry.{Entry}
use Rattle.sheet_ops.specs.declared.operation.Intent.{Intent}
use Rattle.sheet_ops.specs.declared.operation.Intent.TheVariants as intent
use Rattle.sheet_ops.specs.LineIds.{LineId}
use Rattle.sheet_ops.specs.Identity.{IdSheet, opened}
use Rattle.sheet_ops.specs.Act.{acts}
use Rattle.sheet_ops.specs.Naming.{resolve, locate}
use Rattle.sheet_ops.specs.Placed.{PlacedSheet, placed, size_of}
use Rattle.sheet_ops.specs.History.{own_entries, operations, entry_ids, view_of, resolved, view, sheet_of, IsInOrder, IsValidHistory}
use Rattle.sheet_ops.specs.Chains.{ChainFrom, end_of}

-- the own operations that are not among the entries taken, by positions; the last one last, the entries with the last one first
abbrev pub pending_of : Size → List Entry → ℕ → ℕ → List Entry → List Intent
pending_of size H site taken [] = []
pending_of size H site taken (g ∷ G) =
    if nat_le (suc (length G)) (length (own_entries site (take taken H)))
    then []
    else pending_of size H site taken G ++ locate (view_of size H (resolved size H) site taken G) (resolve (view_of size H (resolved size H) site g.seen G) site (suc (operations G)) g.intent) ∷ []

-- the sheet after so many entries of the history
abbrev pub sheet_at : Size → List Entry → ℕ → IdSheet
sheet_at size H k = acts (opened size) (take k (resolved size H))

pub record ClientState : Type 0 where
  pub site : ℕ
  pub size : Size
  pub taken : ℕ
  pub issued : ℕ
  pub sheet : PlacedSheet
  pub pending : List Intent
  pub base : Size

pub record ClientRepresents (c : ClientState) (H G : List Entry) : Type 0 where
  pub within : c.taken ≤ length H
  pub ordered : IsInOrder c.size H c.site c.taken G
  pub issued : c.issued ≡ operations G
  pub sheet : c.sheet ≡ placed (view c.size H c.site c.taken G)
  pub pending : c.pending ≡ pending_of c.size H c.site c.taken (reverse G)
  pub base : c.base ≡ size_of (sheet_at c.size H c.taken)

abbrev pub no_entry : Entry
no_entry = record { site = record { 0 = 0 }; seen = 0; intent = intent.Write [] }

abbrev pub entry_at : List Entry → ℕ → Entry
entry_at H k = slice_index_or H k no_entry

abbrev pub is_own : List Entry → ℕ → ℕ → Bool
is_own H site k = nat_eq (entry_at H k).site.0 site

-- the identifiers of the operations of the entry at place k of the history
abbrev pub ids_at : List Entry → ℕ → List LineId
ids_at H k = let e = entry_at H k in entry_ids e.site.0 (own_entries e.site.0 (take k H)) e.intent

-- what the last own entry had seen, the last one first
abbrev pub last_seen : List Entry → ℕ
last_seen [] = 0
last_seen (g ∷ G) = g.seen

-- what a server keeps of one site
pub record LinkState : Type 0 where
  pub seen : ℕ
  pub issued : ℕ
  pub base : Size
  pub chain : List (Option Effect)

-- the views of a site that has made just its entries of the history
abbrev pub view_at : Size → List Entry → ℕ → ℕ → IdSheet
view_at size H site k = view size H site k (own_entries site H)

pub record LinkRepresents (size : Size) (H : List Entry) (site : ℕ) (l : LinkState) : Type 0 where
  pub seen : l.seen ≡ last_seen (reverse (own_entries site H))
  pub issued : l.issued ≡ operations (own_entries site H)
  pub base : l.base ≡ size_of (view_at size H site l.seen)
  pub chain : ChainFrom (view_at size H site) (ids_at H) (is_own H site) l.seen l.chain
  pub whole : end_of l.seen l.chain ≡ length H

pub record ServerState : Type 0 where
  pub size : Size
  pub sites : ℕ
  pub count : ℕ
  pub sheet : PlacedSheet
  pub links : List LinkState

-- of the sites from a number on
abbrev pub EachLinkRepresents : Size → List Entry → ℕ → List LinkState → Type 0
EachLinkRepresents size H site [] = Unit {0}
EachLinkRepresents size H site (l ∷ ls) = LinkRepresents size H site l × EachLinkRepresents size H (suc site) ls

pub record ServerRepresents (s : ServerState) (H : List Entry) : Type 0 where
  pub valid : IsValidHistory s.size s.sites H
  pub count : s.count ≡ length H
  pub sheet : s.sheet ≡ placed (sheet_of s.size H)
  pub sites : length s.links ≡ s.sites
  pub links : EachLinkRepresents s.size H 1 s.links
