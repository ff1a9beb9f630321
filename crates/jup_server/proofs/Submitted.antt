-- What a server represents after an operation.
use Rattle.std.proofs.Common.{◌≡◌, ◌≢◌, ℕ, zero, suc, ◌+◌, ◌-◌, ◌<◌, ◌≤◌, Bool, true, false, List, [], ◌∷◌, ◌++◌, length, take, drop, refl, ap, sym, ◌∙◌, subst, arith, inl, inr, Option, None, Ok, Err}
use Rattle.std.specs.Prelude.{◌⊎◌, nat_eq, reverse, replicate, slice_index_or, slice_set, Result, OnErr}
use Rattle.std.proofs.lemmas.Bool.Decides.{nat_tests}
use Rattle.std.proofs.lemmas.List.{length-set, get_or-set_same, get_or-set_other, length-append, take_all, append-nil, take_at, get_or_default, length-replicate}
use Rattle.ss_base.specs.declared.types.Size.{Size}
use Rattle.sheet_ops.specs.declared.operation.Entry.{Entry}
use Rattle.sheet_ops.specs.declared.operation.Intent.{Intent}
use Rattle.sheet_ops.specs.declared.operation.Effect.{Effect}
use Rattle.sheet_ops.specs.LineIds.{LineId, operation_id}
use Rattle.sheet_ops.specs.Identity.{IdOp, opened}
use Rattle.sheet_ops.specs.Naming.{operations_of, resolve, locate, effect_of_intent}
use Rattle.sheet_ops.specs.Placed.{PlacedSheet, placed, placed_size, size_of}
use Rattle.sheet_ops.specs.Fits.{IntentFits, IsWellFormed, EachNew}
use Rattle.sheet_ops.specs.Effects.{StepsTo}
use Rattle.sheet_ops.specs.Chains.{size_past, sizes_past, PassesChain, EachChainFits, Leads}
use Rattle.sheet_ops.specs.History.{own_entries, operations, entry_ids, sheet_of, IsValidHistory}
use Rattle.sheet_ops.specs.Represents.{view_at, last_seen, ids_at, is_own, LinkState, LinkRepresents, ServerState, EachLinkRepresents, ServerRepresents}
use Rattle.sheet_ops.specs.Published.{effect_at}
use Rattle.sheet_ops.proofs.Ids.{length-opening_lines}
use Rattle.sheet_ops.proofs.Beginnings.{unknown}
use Rattle.sheet_ops.proofs.Sizes.{size_placed}
use Rattle.sheet_ops.proofs.Chains.{sizes_dropped}
use Rattle.sheet_ops.proofs.Histories.{view_whole}
use Rattle.sheet_ops.proofs.Served.{end_of-length, sheet_fresh, valid_next, served_own, served_sheet, served_other}
use Rattle.sheet_ops.proofs.Published.{chain_fits, effect_here}
use Rattle.sheet_ops.proofs.Names.{each_new}
use Rattle.sheet_ops.proofs.Lengths.{one_of, each_new_for, valid_few, sheet_small}
use Rattle.pair_transform.specs.Changes.{replaced}
use Rattle.sheet_ops.specs.declared.operation.Up.{Up}
use Rattle.jup_server.specs.Servers.{new_link, link_sent, links_sent, no_link, link_at, seen_size, IsNextLink, IsServer, MayTake, entry_of}
use Rattle.jup_server.proofs.Along.{end_stays, front_small}

-- ---- the list of links, by index
pub each_at : (size : Size) (H : List Entry) (first : ℕ) (ls : List LinkState) → EachLinkRepresents size H first ls → (i : ℕ) → i < length ls → LinkRepresents size H (first + i) (slice_index_or ls i no_link)
each_at size H first [] r i h = absurd (omega arith)
each_at size H first (l ∷ ls) r zero h = let e : first ≡ first + 0 = omega arith in subst (λ n. LinkRepresents size H n l) e r.0
each_at size H first (l ∷ ls) r (suc i) h = let e : suc first + i ≡ first + suc i = omega arith in subst (λ n. LinkRepresents size H n (slice_index_or ls i no_link)) e (each_at size H (suc first) ls r.1 i (omega arith))

pub each_from : (size : Size) (H : List Entry) (first : ℕ) (ls : List LinkState) → ((i : ℕ) → i < length ls → LinkRepresents size H (first + i) (slice_index_or ls i no_link)) → EachLinkRepresents size H first ls
each_from size H first [] f = tt
each_from size H first (l ∷ ls) f =
    let e : first + 0 ≡ first = omega arith in (
      subst (λ n. LinkRepresents size H n l) e (f 0 (omega arith)),
      each_from size H (suc first) ls (λ i h. let g : first + suc i ≡ suc first + i = omega arith in subst (λ n. LinkRepresents size H n (slice_index_or ls i no_link)) g (f (suc i) (omega arith))),
    )

pub length-links_sent : (at own : ℕ) (e : Effect) (ls : List LinkState) → length (links_sent at own e ls) ≡ length ls
length-links_sent at own e [] = refl
length-links_sent at own e (l ∷ ls) = ap suc (length-links_sent (suc at) own e ls)

pub sent_at : (at own : ℕ) (e : Effect) (ls : List LinkState) (i : ℕ) → i < length ls → slice_index_or (links_sent at own e ls) i no_link ≡ link_sent (nat_eq (at + i) own) e (slice_index_or ls i no_link)
sent_at at own e [] i h = absurd (omega arith)
sent_at at own e (l ∷ ls) zero h = let k : at ≡ at + 0 = omega arith in ap (λ n. link_sent (nat_eq n own) e l) k
sent_at at own e (l ∷ ls) (suc i) h = let k : suc at + i ≡ at + suc i = omega arith in sent_at (suc at) own e ls i (omega arith) ∙ ap (λ n. link_sent (nat_eq n own) e (slice_index_or ls i no_link)) k

pub sent_first : (own : ℕ) (e : Effect) (ls : List LinkState) (i : ℕ) → i < length ls → slice_index_or (links_sent 0 own e ls) i no_link ≡ link_sent (nat_eq i own) e (slice_index_or ls i no_link)
sent_first own e ls i h = let k : 0 + i ≡ i = omega arith in sent_at 0 own e ls i h ∙ ap (λ n. link_sent (nat_eq n own) e (slice_index_or ls i no_link)) k

-- the entry of a site
abbrev entry_at_site : ℕ → ℕ → Intent → Entry
entry_at_site site seen op = record { site = record { 0 = site }; seen = seen; intent = op }

apart_test : (m n : ℕ) → m ≢ n → nat_eq m n ≡ false
apart_test m n h = grind (arith, nat_tests)

same_or_not : (m n : ℕ) → (m ≡ n) ⊎ (m ≢ n)
same_or_not m n = grind arith

-- ---- what a history gives of a link
module _ (s : ServerState) (H : List Entry) (r : ServerRepresents s H) (rows : s.size.rows ≤ 1000) (cols : s.size.cols ≤ 64) (few : s.sites ≤ 8) where
  pub short : length H ≤ 8000
  short = let h = valid_few s.size s.sites H r.valid in omega (arith, h, few)

  pub sheet_size : placed_size s.sheet ≡ size_of (sheet_of s.size H)
  sheet_size = ap placed_size r.sheet ∙ size_placed (sheet_of s.size H)

  module _ (site : ℕ) (from : 0 < site) (to : site ≤ s.sites) where
    abbrev l : LinkState
    l = link_at s site

    within : site - 1 < length s.links
    within = let h = r.sites in omega arith

    pub link : LinkRepresents s.size H site (link_at s site)
    link = let e : 1 + (site - 1) ≡ site = omega arith in subst (λ n. LinkRepresents s.size H n (link_at s site)) e (each_at s.size H 1 s.links r.links (site - 1) within)

    pub link_long : (link_at s site).seen + length (link_at s site).chain ≡ s.count
    link_long = let n = end_of-length (link_at s site).seen (link_at s site).chain in let w = link.whole in let c = r.count in omega (arith, n, w, c)

    pub link_fits : EachChainFits (link_at s site).base (link_at s site).chain
    link_fits = chain_fits (view_at s.size H site) (ids_at H) (is_own H site) (link_at s site).seen (link_at s site).chain link.chain (link_at s site).base (sym link.base)

    -- the size when it had taken so many entries
    pub view_size : (seen : ℕ) → (link_at s site).seen ≤ seen → seen ≤ s.count → size_of (view_at s.size H site seen) ≡ seen_size (link_at s site) seen
    view_size seen low high =
        let at : (link_at s site).seen + (seen - (link_at s site).seen) ≡ seen = omega arith in
        ap (λ k. size_of (view_at s.size H site k)) (sym at)
        ∙ (sizes_dropped (view_at s.size H site) (ids_at H) (is_own H site) (seen - (link_at s site).seen) (link_at s site).seen (link_at s site).chain (let n = link_long in omega arith) link.chain
        ∙ ap (λ (z : Size). sizes_past z (take (seen - (link_at s site).seen) (link_at s site).chain)) (sym link.base))

    pub link_small : ((sizes_past (link_at s site).base (link_at s site).chain).rows ≤ 9000) × ((sizes_past (link_at s site).base (link_at s site).chain).cols ≤ 8064)
    link_small =
        let n = link_long in
        let all : seen_size (link_at s site) s.count ≡ sizes_past (link_at s site).base (link_at s site).chain = ap (sizes_past (link_at s site).base) (take_all (s.count - (link_at s site).seen) (link_at s site).chain (omega arith)) in
        let whole : size_of (view_at s.size H site s.count) ≡ size_of (sheet_of s.size H) = ap (λ k. size_of (view_at s.size H site k)) r.count ∙ ap size_of (view_whole s.size H site) in
        let same : size_of (sheet_of s.size H) ≡ sizes_past (link_at s site).base (link_at s site).chain = sym whole ∙ (view_size s.count (omega arith) (omega arith) ∙ all) in
        let small = sheet_small s.size s.sites H r.valid in
        let h = short in
        (omega (arith, small.0, h, rows, ap (λ (z : Size). z.rows) same), omega (arith, small.1, h, cols, ap (λ (z : Size). z.cols) same))

    -- ---- an operation of the site
    module _ (seen : ℕ) (op : Intent) (low : (link_at s site).seen ≤ seen) (high : seen ≤ s.count) (left : (link_at s site).issued < 1000) (m : LinkState) (last : Intent) (next : IsNextLink (link_at s site) seen op m last) where
      sized : size_of (view_at s.size H site seen) ≡ seen_size (link_at s site) seen
      sized = view_size seen low high

      fits_here : IntentFits (size_of (view_at s.size H site seen)) op
      fits_here = subst (λ (z : Size). IntentFits z op) (sym sized) next.fits

      seen_in : seen ≤ length H
      seen_in = let c = r.count in omega arith

      later : last_seen (reverse (own_entries site H)) ≤ seen
      later = let a = link.seen in omega arith

      few_own : operations (own_entries site H) + operations_of op ≤ 1000
      few_own = let a = link.issued in let b = one_of op in omega (arith, a, b, left)

      passed : PassesChain (size_of (view_at s.size H site seen)) op (drop (seen - (link_at s site).seen) (link_at s site).chain) next.passed.0 last
      passed = subst (λ (z : Size). PassesChain z op (drop (seen - (link_at s site).seen) (link_at s site).chain) next.passed.0 last) (sym sized) next.passed.1

      abbrev N : IdOp
      N = resolve (view_at s.size H site seen) site (suc (operations (own_entries site H))) op

      -- the identifiers of its operations
      abbrev own_ids : List LineId
      own_ids = entry_ids site (own_entries site H) op

      abbrev after : List Entry
      after = H ++ entry_at_site site seen op ∷ []

      own : LinkRepresents s.size after site m × (locate (sheet_of s.size H) N ≡ last) × IntentFits (size_of (sheet_of s.size H)) last
      own =
          let all = served_own s.size s.sites H r.valid site seen op from to seen_in later few_own fits_here (link_at s site) link low next.passed.0 last passed in
          let same : m ≡ record { seen = seen; issued = (link_at s site).issued + operations_of op; base = size_past (size_of (view_at s.size H site seen)) (effect_of_intent op); chain = next.passed.0 ++ None ∷ [] } =
          next.passed.2 ∙ (λ i. record { seen = seen; issued = (link_at s site).issued + sym (one_of op) i; base = size_past (sym sized i) (effect_of_intent op); chain = next.passed.0 ++ None ∷ [] }) in
          (subst (λ (x : LinkState). LinkRepresents s.size after site x) (sym same) all.0, all.1, all.2)

      -- the effect fits the sheet
      pub last_fits : IntentFits (placed_size s.sheet) last
      last_fits = subst (λ (z : Size). IntentFits z last) (sym sheet_size) own.2

      lead : Leads (sheet_of s.size H) (sheet_of s.size after) (effect_of_intent last) (entry_ids site (own_entries site H) op)
      lead = served_sheet s.size s.sites H r.valid site seen op from to seen_in later few_own fits_here last own.1 own.2

      own_new : IsWellFormed (sheet_of s.size H) × EachNew (sheet_of s.size H) (entry_ids site (own_entries site H) op)
      own_new =
          let fresh = sheet_fresh s.size s.sites H r.valid in
          (fresh.formed, each_new (sheet_of s.size H) site (suc (operations (own_entries site H))) (operations_of op) (λ n low. fresh.new (operation_id site n) (unknown site H from n low)))

      links_after : (i : ℕ) → i < length (slice_set (links_sent 0 (site - 1) (effect_of_intent last) s.links) (site - 1) m) → LinkRepresents s.size after (1 + i) (slice_index_or (slice_set (links_sent 0 (site - 1) (effect_of_intent last) s.links) (site - 1) m) i no_link)
      links_after i h = by_site (same_or_not i (site - 1))
        where
          inside : i < length s.links
          inside = let n = length-set (links_sent 0 (site - 1) (effect_of_intent last) s.links) (site - 1) m in let k = length-links_sent 0 (site - 1) (effect_of_intent last) s.links in omega (arith, h, n, k)

          by_site : ((i ≡ site - 1) ⊎ (i ≢ site - 1)) → LinkRepresents s.size after (1 + i) (slice_index_or (slice_set (links_sent 0 (site - 1) (effect_of_intent last) s.links) (site - 1) m) i no_link)
          by_site (inl same) =
              let e : site ≡ 1 + i = omega (arith, same, from) in
              let k = length-links_sent 0 (site - 1) (effect_of_intent last) s.links in
              let there : slice_index_or (slice_set (links_sent 0 (site - 1) (effect_of_intent last) s.links) (site - 1) m) i no_link ≡ m =
              ap (λ j. slice_index_or (slice_set (links_sent 0 (site - 1) (effect_of_intent last) s.links) (site - 1) m) j no_link) same ∙ get_or-set_same (links_sent 0 (site - 1) (effect_of_intent last) s.links) (site - 1) m no_link (let w = within in omega (arith, k, w)) in
              subst (λ (x : LinkState). LinkRepresents s.size after (1 + i) x) (sym there) (subst (λ n. LinkRepresents s.size after n m) e own.0)
          by_site (inr apart) =
              let q = each_at s.size H 1 s.links r.links i inside in
              let there : slice_index_or (slice_set (links_sent 0 (site - 1) (effect_of_intent last) s.links) (site - 1) m) i no_link ≡ link_sent false (effect_of_intent last) (slice_index_or s.links i no_link) =
              get_or-set_other (links_sent 0 (site - 1) (effect_of_intent last) s.links) (site - 1) i m no_link apart
              ∙ (sent_first (site - 1) (effect_of_intent last) s.links i inside ∙ ap (λ (b : Bool). link_sent b (effect_of_intent last) (slice_index_or s.links i no_link)) (apart_test i (site - 1) apart)) in
              let low_other : (slice_index_or s.links i no_link).seen ≤ length H = let w = q.whole in let n = end_of-length (slice_index_or s.links i no_link).seen (slice_index_or s.links i no_link).chain in omega (arith, w, n) in
              subst (λ (x : LinkState). LinkRepresents s.size after (1 + i) x) (sym there)
              (served_other s.size s.sites H r.valid site seen op from to seen_in later few_own fits_here last own.1 own.2 (1 + i) (other_site site i from apart) (slice_index_or s.links i no_link) q low_other)
            where
              other_site : (site i : ℕ) → 0 < site → i ≢ site - 1 → nat_eq site (1 + i) ≡ false
              other_site site i h k = grind (arith, nat_tests)

      -- the server then represents the history with the entry
      pub submitted : (P : PlacedSheet) → StepsTo s.sheet (effect_of_intent last) P →
          ServerRepresents (record s { count = s.count + 1; sheet = P; links = slice_set (links_sent 0 (site - 1) (effect_of_intent last) s.links) (site - 1) m }) (H ++ entry_at_site site seen op ∷ [])
      submitted P steps = record {
        valid = valid_next s.size s.sites H r.valid site seen op from to seen_in later few_own fits_here;
        count = ap (λ n. n + 1) r.count ∙ sym (length-append H (entry_at_site site seen op ∷ []));
        sheet = sym (steps (sheet_of s.size H) own_ids own_new.0 (each_new_for (sheet_of s.size H) own_ids own_new.0 own_new.1 (effect_of_intent last) lead.as_many) (sym r.sheet)) ∙ ap placed lead.same;
        sites = length-set (links_sent 0 (site - 1) (effect_of_intent last) s.links) (site - 1) m ∙ (length-links_sent 0 (site - 1) (effect_of_intent last) s.links ∙ r.sites);
        links = each_from s.size after 1 (slice_set (links_sent 0 (site - 1) (effect_of_intent last) s.links) (site - 1) m) links_after;
      }

      -- and the effect is the one that is published of it
      pub answered : effect_of_intent last ≡ effect_at s.size (H ++ entry_at_site site seen op ∷ []) (length H)
      answered =
          let v = valid_next s.size s.sites H r.valid site seen op from to seen_in later few_own fits_here in
          sym (ap (λ (es : List Entry). effect_at s.size es (length H)) (sym (append-nil (H ++ entry_at_site site seen op ∷ [])))
          ∙ (effect_here s.size s.sites H (entry_at_site site seen op) [] (subst (IsValidHistory s.size s.sites) (sym (append-nil (H ++ entry_at_site site seen op ∷ []))) v)
          ∙ ap effect_of_intent own.1))

-- ---- at the fields of a server
module _ (s : ServerState) (ok : IsServer s) (site : ℕ) (up : Up) (may : MayTake s site up) where
  represented : ServerRepresents s ok.history.0
  represented = ok.history.1

  pub reaches : up.seen ≤ (link_at s site).seen + length (link_at s site).chain
  reaches = let n = link_long s ok.history.0 represented ok.rows ok.cols ok.sites site may.from may.to in let h = may.high in omega arith

  pub small : ((sizes_past (link_at s site).base (link_at s site).chain).rows ≤ 9000) × ((sizes_past (link_at s site).base (link_at s site).chain).cols ≤ 8064)
  small = link_small s ok.history.0 represented ok.rows ok.cols ok.sites site may.from may.to

  pub chain_ok : EachChainFits (link_at s site).base (link_at s site).chain
  chain_ok = link_fits s ok.history.0 represented ok.rows ok.cols ok.sites site may.from may.to

  pub count_small : s.count ≤ 8000
  count_small = let h = short s ok.history.0 represented ok.rows ok.cols ok.sites in let c = represented.count in omega arith

  pub links_few : length s.links ≤ 8
  links_few = let n = represented.sites in let h = ok.sites in omega (arith, n, h)

  pub there : site - 1 < length s.links
  there = let n = represented.sites in let f = may.from in let t = may.to in omega (arith, n, f, t)

  pub sheet_room : ((placed_size s.sheet).rows < 16000) × ((placed_size s.sheet).cols < 16000)
  sheet_room =
      let size = sheet_size s ok.history.0 represented ok.rows ok.cols ok.sites in
      let h = sheet_small s.size s.sites ok.history.0 represented.valid in
      let n = short s ok.history.0 represented ok.rows ok.cols ok.sites in
      (omega (arith, h.0, n, ok.rows, ap (λ (z : Size). z.rows) size), omega (arith, h.1, n, ok.cols, ap (λ (z : Size). z.cols) size))

  module _ (m : LinkState) (last : Intent) (next : IsNextLink (link_at s site) up.seen up.intent m last) where
    pub last_here : IntentFits (placed_size s.sheet) last
    last_here = last_fits s ok.history.0 represented ok.rows ok.cols ok.sites site may.from may.to up.seen up.intent may.low may.high may.few m last next

    pub stands : (H : List Entry) → ServerRepresents s H → (e : Effect) → e ≡ effect_of_intent last → (P : PlacedSheet) → StepsTo s.sheet e P → (ls : List LinkState) → ls ≡ links_sent 0 (site - 1) e s.links →
        ServerRepresents (record s { sites = length (slice_set ls (site - 1) m); count = s.count + 1; sheet = P; links = slice_set ls (site - 1) m }) (H ++ entry_of site up ∷ [])
    stands H r e is P steps ls sent =
        let sent' : ls ≡ links_sent 0 (site - 1) (effect_of_intent last) s.links = sent ∙ ap (λ (d : Effect). links_sent 0 (site - 1) d s.links) is in
        let all = submitted s H r ok.rows ok.cols ok.sites site may.from may.to up.seen up.intent may.low may.high may.few m last next P (subst (λ (d : Effect). StepsTo s.sheet d P) is steps) in
        let many : s.sites ≡ length (slice_set ls (site - 1) m) = sym (length-set ls (site - 1) m ∙ (ap length sent ∙ (length-links_sent 0 (site - 1) e s.links ∙ r.sites))) in
        subst (λ (n : ℕ). ServerRepresents (record s { sites = n; count = s.count + 1; sheet = P; links = slice_set ls (site - 1) m }) (H ++ entry_of site up ∷ [])) many
        (subst (λ (ks : List LinkState). ServerRepresents (record s { count = s.count + 1; sheet = P; links = slice_set ks (site - 1) m }) (H ++ entry_of site up ∷ [])) (sym sent') all)

    pub keeps : (e : Effect) → e ≡ effect_of_intent last → (P : PlacedSheet) → StepsTo s.sheet e P → (ls : List LinkState) → ls ≡ links_sent 0 (site - 1) e s.links →
        IsServer (record s { sites = length (slice_set ls (site - 1) m); count = s.count + 1; sheet = P; links = slice_set ls (site - 1) m })
    keeps e is P steps ls sent = record {
      rows = ok.rows;
      cols = ok.cols;
      sites = let n = length-set ls (site - 1) m in let k = ap length sent in let j = length-links_sent 0 (site - 1) e s.links in let r = represented.sites in let h = ok.sites in omega arith;
      history = (ok.history.0 ++ entry_of site up ∷ [], stands ok.history.0 represented e is P steps ls sent);
    }

    pub answers : (H : List Entry) → ServerRepresents s H → (e : Effect) → e ≡ effect_of_intent last → e ≡ effect_at s.size (H ++ entry_of site up ∷ []) (length H)
    answers H r e is = is ∙ answered s H r ok.rows ok.cols ok.sites site may.from may.to up.seen up.intent may.low may.high may.few m last next

-- ---- the own link after an operation
abbrev pub advanced : LinkState → ℕ → Intent → List (Option Effect) → LinkState
advanced l seen op done = record { seen = seen; issued = l.issued + 1; base = size_past (seen_size l seen) (effect_of_intent op); chain = done ++ None ∷ [] }

pub next_link : (l : LinkState) (seen : ℕ) (op : Intent) (done : List (Option Effect)) (last : Intent) → IntentFits (seen_size l seen) op → PassesChain (seen_size l seen) op (drop (seen - l.seen) l.chain) done last →
    IsNextLink l seen op (advanced l seen op done) last
next_link l seen op done last fits p = record { fits = fits; passed = (done, p, refl) }

-- the link that stands there once the effect is sent, and once it has advanced
module _ (s : ServerState) (site : ℕ) (e : Effect) (there : site - 1 < length s.links) where
  pub sent_own : (x : LinkState) → x ≡ slice_index_or (links_sent 0 (site - 1) e s.links) (site - 1) x → x ≡ link_sent true e (link_at s site)
  sent_own x at =
      at ∙ (get_or_default (links_sent 0 (site - 1) e s.links) (site - 1) x no_link (let n = length-links_sent 0 (site - 1) e s.links in omega (arith, n, there))
      ∙ (sent_first (site - 1) e s.links (site - 1) there ∙ ap (λ (b : Bool). link_sent b e (link_at s site)) (same_test (site - 1))))
    where
      same_test : (n : ℕ) → nat_eq n n ≡ true
      same_test n = grind (arith, nat_tests)

pub advanced_is : (l x : LinkState) (e : Effect) (seen : ℕ) (op : Intent) (steps : List (Option (Option Effect))) (base : Size) → x ≡ link_sent true e l → seen - l.seen ≤ length l.chain → length steps + (seen - l.seen) ≤ length l.chain →
    base ≡ size_past (seen_size l seen) (effect_of_intent op) →
    record { seen = seen; issued = x.issued + 1; base = base; chain = replaced steps (drop (seen - x.seen) x.chain) } ≡ advanced l seen op (replaced steps (drop (seen - l.seen) l.chain))
advanced_is l x e seen op steps base is within many past =
    (λ i. record { seen = seen; issued = (is i).issued + 1; base = past i; chain = replaced steps (drop (seen - (is i).seen) (is i).chain) })
    ∙ (λ i. record { seen = seen; issued = l.issued + 1; base = size_past (seen_size l seen) (effect_of_intent op); chain = end_stays l.base l.chain (seen - l.seen) None steps within many i })

-- the link that stands at a site's place
pub link_here : (s : ServerState) → IsServer s → (site : ℕ) (x : LinkState) → 0 < site → site ≤ s.sites → x ≡ slice_index_or s.links (site - 1) x → link_at s site ≡ x
link_here s ok site x from to at = get_or_default s.links (site - 1) no_link x (let r = ok.history.1.sites in omega (arith, r, from, to)) ∙ sym at

-- ---- an operation that may be taken, by what the calls give
module _ (s : ServerState) (ok : IsServer s) (site : ℕ) (up : Up) (may : MayTake s site up) (x : LinkState) (at : x ≡ slice_index_or s.links (site - 1) x) (size : Size) (sized : size ≡ seen_size (link_at s site) up.seen) where
  is_link : link_at s site ≡ x
  is_link = link_here s ok site x may.from may.to at

  pub x_reaches : up.seen ≤ x.seen + length x.chain
  x_reaches = subst (λ (l : LinkState). up.seen ≤ l.seen + length l.chain) is_link (reaches s ok site up may)

  pub x_small : ((sizes_past x.base x.chain).rows ≤ 9000) × ((sizes_past x.base x.chain).cols ≤ 8064)
  x_small = subst (λ (l : LinkState). ((sizes_past l.base l.chain).rows ≤ 9000) × ((sizes_past l.base l.chain).cols ≤ 8064)) is_link (small s ok site up may)

  pub x_fits : EachChainFits x.base x.chain
  x_fits = subst (λ (l : LinkState). EachChainFits l.base l.chain) is_link (chain_ok s ok site up may)

  pub size_small : (size.rows ≤ 9000) × (size.cols ≤ 8064)
  size_small =
      let h = front_small (link_at s site).base (link_at s site).chain (up.seen - (link_at s site).seen) in
      let n = small s ok site up may in
      (omega (arith, h.0, n.0, ap (λ (z : Size). z.rows) sized), omega (arith, h.1, n.1, ap (λ (z : Size). z.cols) sized))

  module _ (steps : List (Option (Option Effect))) (last : Intent) (p : PassesChain size up.intent (drop (up.seen - x.seen) x.chain) (replaced steps (drop (up.seen - x.seen) x.chain)) last)
      (many : length steps + (up.seen - x.seen) ≤ length x.chain) where
    abbrev done : List (Option Effect)
    done = replaced steps (drop (up.seen - (link_at s site).seen) (link_at s site).chain)

    passed_own : PassesChain (seen_size (link_at s site) up.seen) up.intent (drop (up.seen - (link_at s site).seen) (link_at s site).chain) (replaced steps (drop (up.seen - (link_at s site).seen) (link_at s site).chain)) last
    passed_own =
        subst (λ (z : Size). PassesChain z up.intent (drop (up.seen - (link_at s site).seen) (link_at s site).chain) (replaced steps (drop (up.seen - (link_at s site).seen) (link_at s site).chain)) last) sized
        (subst (λ (k : LinkState). PassesChain size up.intent (drop (up.seen - k.seen) k.chain) (replaced steps (drop (up.seen - k.seen) k.chain)) last) (sym is_link) p)

    many_own : length steps + (up.seen - (link_at s site).seen) ≤ length (link_at s site).chain
    many_own = subst (λ (k : LinkState). length steps + (up.seen - k.seen) ≤ length k.chain) (sym is_link) many

    next_own : IsNextLink (link_at s site) up.seen up.intent (advanced (link_at s site) up.seen up.intent (replaced steps (drop (up.seen - (link_at s site).seen) (link_at s site).chain))) last
    next_own = next_link (link_at s site) up.seen up.intent (replaced steps (drop (up.seen - (link_at s site).seen) (link_at s site).chain)) last may.fits passed_own

    pub own_fits : IntentFits (placed_size s.sheet) last
    own_fits = last_here s ok site up may (advanced (link_at s site) up.seen up.intent (replaced steps (drop (up.seen - (link_at s site).seen) (link_at s site).chain))) last next_own

    module _ (e : Effect) (is : e ≡ effect_of_intent last) (ls : List LinkState) (sent : ls ≡ links_sent 0 (site - 1) e s.links) (y : LinkState) (here : y ≡ slice_index_or ls (site - 1) y) where
      y_is : y ≡ link_sent true e (link_at s site)
      y_is = sent_own s site e (there s ok site up may) y (here ∙ ap (λ (ks : List LinkState). slice_index_or ks (site - 1) y) sent)

      pub y_low : y.seen ≤ up.seen
      y_low = let n = ap (λ (l : LinkState). l.seen) y_is in let h = may.low in omega (arith, n, h)

      pub y_many : length steps + (up.seen - y.seen) ≤ length y.chain
      y_many =
          let n = ap (λ (l : LinkState). l.seen) y_is in
          let k = ap (λ (l : LinkState). length l.chain) y_is ∙ length-append (link_at s site).chain (None ∷ []) in
          let h = many_own in
          omega (arith, n, k, h)

      pub y_few : y.issued < 1000
      y_few = let n = ap (λ (l : LinkState). l.issued) y_is in let h = may.few in omega (arith, n, h)

      module _ (base : Size) (past : base ≡ size_past size (effect_of_intent up.intent)) (m : LinkState) (now : m ≡ record { seen = up.seen; issued = y.issued + 1; base = base; chain = replaced steps (drop (up.seen - y.seen) y.chain) })
          (P : PlacedSheet) (stepped : StepsTo s.sheet e P) where
        next_now : IsNextLink (link_at s site) up.seen up.intent m last
        next_now =
            subst (λ (k : LinkState). IsNextLink (link_at s site) up.seen up.intent k last)
            (sym (now ∙ advanced_is (link_at s site) y e up.seen up.intent steps base y_is (let h = reaches s ok site up may in let low = may.low in omega (arith, h, low)) many_own
            (past ∙ ap (λ (z : Size). size_past z (effect_of_intent up.intent)) sized))) next_own

        pub server_stands : (H : List Entry) → ServerRepresents s H →
            ServerRepresents (record s { sites = length (slice_set ls (site - 1) m); count = s.count + 1; sheet = P; links = slice_set ls (site - 1) m }) (H ++ entry_of site up ∷ [])
        server_stands H r = stands s ok site up may m last next_now H r e is P stepped ls sent

        pub server_keeps : IsServer (record s { sites = length (slice_set ls (site - 1) m); count = s.count + 1; sheet = P; links = slice_set ls (site - 1) m })
        server_keeps = keeps s ok site up may m last next_now e is P stepped ls sent

    pub server_answers : (e : Effect) → e ≡ effect_of_intent last → (H : List Entry) → ServerRepresents s H → e ≡ effect_at s.size (H ++ entry_of site up ∷ []) (length H)
    server_answers e is H r = answers s ok site up may (advanced (link_at s site) up.seen up.intent (replaced steps (drop (up.seen - (link_at s site).seen) (link_at s site).chain))) last next_own H r e is

-- ---- a refused call leaves the server
abbrev pub state_of : Size → ℕ → PlacedSheet → List LinkState → ServerState
state_of size count P ls = record { size = size; sites = length ls; count = count; sheet = P; links = ls }

module _ (size : Size) (count : ℕ) (P Q : PlacedSheet) (ls ks : List LinkState) (is : ks ≡ ls) (on : Q ≡ P) where
  pub same_state : state_of size count Q ks ≡ state_of size count P ls
  same_state = λ i. state_of size count (on i) (is i)

  pub same_server : IsServer (state_of size count P ls) → IsServer (state_of size count Q ks)
  same_server ok = subst IsServer (sym same_state) ok

pub at_err : {A E : Type 0} (P : Type 0) (r : Result A E) → P → OnErr r P
at_err P (Ok a) p = tt
at_err P (Err x) p = p

-- what is written back to a vector of links
pub whole_links : (n : ℕ) (new old : List LinkState) → n ≡ length old → length new ≡ length old → take n (new ++ drop (length new) old) ≡ new
whole_links n new old h k = take_at new (drop (length new) old) n (omega arith)

-- ---- a new server
new_stands : (size : Size) (site : ℕ) → LinkRepresents size [] site (new_link size)
new_stands size site = record {
  seen = refl;
  issued = refl;
  base = sym (λ i. record { rows = length-opening_lines 0 size.rows i; cols = length-opening_lines 0 size.cols i });
  chain = tt;
  whole = refl;
}

new_links : (size : Size) (first n : ℕ) → EachLinkRepresents size [] first (replicate n (new_link size))
new_links size first zero = tt
new_links size first (suc n) = (new_stands size first, new_links size (suc first) n)

pub new_represents : (size : Size) (sites : ℕ) (P : PlacedSheet) (ls : List LinkState) → P ≡ placed (opened size) → ls ≡ replicate sites (new_link size) →
    ServerRepresents (record { size = size; sites = length ls; count = 0; sheet = P; links = ls }) []
new_represents size sites P ls is all = record {
  valid = tt;
  count = refl;
  sheet = is;
  sites = refl;
  links = subst (EachLinkRepresents size [] 1) (sym all) (new_links size 1 sites);
}

pub new_server : (size : Size) (sites : ℕ) (P : PlacedSheet) (ls : List LinkState) → size.rows ≤ 1000 → size.cols ≤ 64 → sites ≤ 8 → P ≡ placed (opened size) → ls ≡ replicate sites (new_link size) →
    IsServer (record { size = size; sites = length ls; count = 0; sheet = P; links = ls })
new_server size sites P ls rows cols few is all = record {
  rows = rows;
  cols = cols;
  sites = let n = ap length all ∙ length-replicate sites (new_link size) in omega (arith, n, few);
  history = ([], new_represents size sites P ls is all);
}
