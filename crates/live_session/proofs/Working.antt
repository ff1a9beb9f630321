-- What the calls of a session leave of it.
use Rattle.std.proofs.Common.{◌≡◌, ℕ, zero, suc, ◌+◌, ◌-◌, ◌<◌, ◌≤◌, List, [], ◌∷◌, ◌++◌, length, map, take, drop, refl, ap, sym, ◌∙◌, subst, arith, append_assoc, length-append, inl, inr, Option, Some, None, Ok, Err}
use Rattle.std.specs.Prelude.{◌⊎◌, ◌↔◌, min, MatchOption, unwrap_or, Result, IfOk, OnErr}
use Rattle.std.proofs.lemmas.List.{length-take, length-drop}
use Rattle.std.proofs.lemmas.List.FromFn.{length-map-range_with_len}
use Rattle.ss_base.specs.declared.types.Site.{Site}
use Rattle.ss_base.specs.declared.types.Size.{Size}
use Rattle.ss_base.specs.Lists.{IsPrefixOf}
use Rattle.sheet_ops.specs.declared.operation.Entry.{Entry}
use Rattle.sheet_ops.specs.declared.operation.Up.{Up}
use Rattle.sheet_ops.specs.History.{own_entries, operations, IsValidHistory}
use Rattle.sheet_ops.specs.Represents.{ClientState, ClientRepresents}
use Rattle.sheet_ops.proofs.Lengths.{length-operations}
use Rattle.jup_server.specs.Servers.{entry_of}
use Rattle.jup_client.specs.declared.Down.{Down}
use Rattle.jup_client.specs.Clients.{down_at, own_entry}
use Rattle.client_edits.specs.Decided.{with_operation}
use Rattle.turn_book.specs.declared.kept.Made.{Made}
use Rattle.turn_book.specs.Passes.{PassOf, IsSamePass, seen_by, made_in}
use Rattle.hub.specs.Hubs.{opening_of}
use Rattle.hub.specs.Messages.{messages_of}
use Rattle.live_session.specs.Sessions.{ReplicaStands, IsSession, entries_by, no_pass}
use Rattle.live_session.specs.Pulling.{AreNextMessages, HasTakenMore}

abbrev items : List (Made Entry) → List Entry
items ms = map (λ (m : Made Entry). m.item) ms

-- a session has a pass but within a call
pub has_pass : (site : Site) (c : ClientState) (o : Option (PassOf Entry)) (seen : ℕ) (ups : List Up) → MatchOption o ⊥ (λ (p : PassOf Entry). IsSession site c p seen ups) → IsSession site c (unwrap_or o no_pass) seen ups
has_pass site c None seen ups h = absurd h
has_pass site c (Some p) seen ups h = h

pub with_pass : (site : Site) (c : ClientState) (o : Option (PassOf Entry)) (p : PassOf Entry) (seen : ℕ) (ups : List Up) → o ≡ Some p → MatchOption o ⊥ (λ (q : PassOf Entry). IsSession site c q seen ups) → IsSession site c p seen ups
with_pass site c o p seen ups is h = subst (λ (r : Option (PassOf Entry)). MatchOption r ⊥ (λ (q : PassOf Entry). IsSession site c q seen ups)) is h

-- ---- a new session
pub begun : (site : Site) (size : Size) (sites : ℕ) (c : ClientState) (p : PassOf Entry) → c.site ≡ site.0 → c.size ≡ size → c.issued ≡ 0 → 0 < site.0 → site.0 ≤ sites → p.number ≡ site.0 → p.opening ≡ opening_of size sites → p.seen ≡ [] → p.made ≡ []
    → ClientRepresents c [] [] → IsSession site c p 0 []
begun site size sites c p site_is size_is issued from to number opening seen made represents =
    let none : seen_by p ≡ [] = ap items seen in
    let none_made : made_in p ≡ [] = ap items made in
    record {
      site_is = site_is;
      length_is = ap (λ (l : List Entry). length l) (sym none);
      stands = record {
        sites = sites;
        opening = opening ∙ ap (λ (z : Size). opening_of z sites) (sym size_is);
        from = subst (λ (n : ℕ). 0 < n) (sym site_is) from;
        to = subst (λ (n : ℕ). n ≤ sites) (sym site_is) to;
        number = number ∙ sym site_is;
        issued = omega (arith, issued);
        valid = subst (IsValidHistory c.size sites) (sym none) tt;
        own = ap (own_entries c.site) none ∙ sym none_made;
        represents = subst (λ (H : List Entry). ClientRepresents c H (made_in p ++ [])) (sym none) (subst (λ (G : List Entry). ClientRepresents c [] (G ++ [])) (sym none_made) represents);
      };
    }

-- ---- another state of the replica beside the same pass
pub replica_changed : (c d : ClientState) (p : PassOf Entry) (waiting more : List Entry) → ReplicaStands c p waiting → d.site ≡ c.site → d.size ≡ c.size → d.issued ≤ 1000 → ClientRepresents d (seen_by p) (made_in p ++ more) → ReplicaStands d p more
replica_changed c d p waiting more s site size issued represents = record {
  sites = s.sites;
  opening = s.opening ∙ ap (λ (z : Size). opening_of z s.sites) (sym size);
  from = subst (λ (n : ℕ). 0 < n) (sym site) s.from;
  to = subst (λ (n : ℕ). n ≤ s.sites) (sym site) s.to;
  number = s.number ∙ sym site;
  issued = issued;
  valid = subst (λ (z : Size). IsValidHistory z s.sites (seen_by p)) (sym size) s.valid;
  own = ap (λ (n : ℕ). own_entries n (seen_by p)) site ∙ s.own;
  represents = represents;
}

-- the own entries in the history are a beginning of all own ones
pub mine_begins : (c : ClientState) (p : PassOf Entry) (waiting : List Entry) → ReplicaStands c p waiting → IsPrefixOf (own_entries c.site (seen_by p)) (made_in p ++ waiting)
mine_begins c p waiting s = (waiting, ap (λ (l : List Entry). l ++ waiting) s.own)

-- ---- an edit
pub more_waits : (site : Site) (c : ClientState) (ups : List Up) (up : Up) → c.site ≡ site.0 → up.seen ≡ c.taken → entries_by site ups ++ own_entry c up.intent ∷ [] ≡ entries_by site (ups ++ up ∷ [])
more_waits site c [] up is seen = λ i. record { site = record { 0 = is i }; seen = sym seen i; intent = up.intent } ∷ []
more_waits site c (x ∷ ups) up is seen = ap (λ (l : List Entry). entry_of site.0 x ∷ l) (more_waits site c ups up is seen)

pub edited : (site : Site) (c d : ClientState) (p : PassOf Entry) (seen : ℕ) (ups : List Up) (up : Up) → IsSession site c p seen ups → c.issued < 1000 → up.seen ≡ c.taken → d ≡ with_operation c up.intent
    → ((sites : ℕ) (H G : List Entry) → IsValidHistory c.size sites H → ClientRepresents c H G → IsPrefixOf (own_entries c.site H) G → ClientRepresents d H (G ++ own_entry c up.intent ∷ [])) → IsSession site d p seen (ups ++ up ∷ [])
edited site c d p seen ups up s few at is represents =
    let t = s.stands in
    let G = made_in p ++ entries_by site ups in
    let all : G ++ own_entry c up.intent ∷ [] ≡ made_in p ++ entries_by site (ups ++ up ∷ []) =
    append_assoc (made_in p) (entries_by site ups) (own_entry c up.intent ∷ []) ∙ ap (λ (l : List Entry). made_in p ++ l) (more_waits site c ups up s.site_is at) in
    let number : d.site ≡ c.site = ap (λ (z : ClientState). z.site) is in
    let size : d.size ≡ c.size = ap (λ (z : ClientState). z.size) is in
    let issued : d.issued ≡ c.issued + 1 = ap (λ (z : ClientState). z.issued) is in
    record {
      site_is = number ∙ s.site_is;
      length_is = s.length_is;
      stands = replica_changed c d p (entries_by site ups) (entries_by site (ups ++ up ∷ [])) t number size (omega (arith, issued, few))
          (subst (ClientRepresents d (seen_by p)) all (represents t.sites (seen_by p) G t.valid t.represents (mine_begins c p (entries_by site ups) t)));
    }

-- the same where the pass isn't out
pub edited_whole : (site : Site) (c d : ClientState) (o : Option (PassOf Entry)) (seen : ℕ) (ups more : List Up) (up : Up) → MatchOption o ⊥ (λ (p : PassOf Entry). IsSession site c p seen ups) → more ≡ ups ++ up ∷ [] → c.issued < 1000 → up.seen ≡ c.taken → d ≡ with_operation c up.intent
    → ((sites : ℕ) (H G : List Entry) → IsValidHistory c.size sites H → ClientRepresents c H G → IsPrefixOf (own_entries c.site H) G → ClientRepresents d H (G ++ own_entry c up.intent ∷ [])) → MatchOption o ⊥ (λ (p : PassOf Entry). IsSession site d p seen more)
edited_whole site c d None seen ups more up s items few at is represents = absurd s
edited_whole site c d (Some p) seen ups more up s items few at is represents = subst (λ (l : List Up). IsSession site d p seen l) (sym items) (edited site c d p seen ups up s few at is represents)

-- ---- a pull
-- the replica once messages are taken
pub took_stands : (c d : ClientState) (p : PassOf Entry) (waiting : List Entry) (count : ℕ) → ReplicaStands c p waiting → HasTakenMore count c d → ClientRepresents d (seen_by p) (made_in p ++ waiting) → ReplicaStands d p waiting
took_stands c d p waiting count s took represents =
    let issued = took.issued in
    let few = s.issued in
    replica_changed c d p waiting waiting s took.site took.size (omega (arith, issued, few)) represents

-- the messages that a hold gave for a pass, which is p before it and q behind it
module _ {E : Type 0} (site : Site) (c : ClientState) (p q : PassOf Entry) (seen : ℕ) (ups : List Up) (from most : ℕ) (x : Result (List Down) E) (downs : List Down) (was : x ≡ Ok downs) (s : IsSession site c p seen ups)
    (same : IsSamePass p q) (at : from ≡ c.taken)
    (messages : (size : Size) (sites : ℕ) → p.opening ≡ opening_of size sites → IfOk x (λ (l : List Down). l ≡ take most (drop from (messages_of size (seen_by q) site.0))))
    (few : (size : Size) (sites : ℕ) → p.opening ≡ opening_of size sites → sites ≤ 8) (stands : (d : ClientState) (waiting : List Entry) → ReplicaStands d p waiting → ReplicaStands d q waiting) where
  pub stood : ReplicaStands c q (entries_by site ups)
  stood = stands c (entries_by site ups) s.stands

  opens : p.opening ≡ opening_of c.size stood.sites
  opens = sym same.opening ∙ stood.opening

  are : downs ≡ take most (drop from (messages_of c.size (seen_by q) site.0))
  are = subst (λ (y : Result (List Down) E). IfOk y (λ (l : List Down). l ≡ take most (drop from (messages_of c.size (seen_by q) site.0)))) was (messages c.size stood.sites opens)

  -- they may be taken
  pub may_take : AreNextMessages c (seen_by q) (made_in q ++ entries_by site ups) downs
  may_take = record {
    sites = stood.sites;
    few = few c.size stood.sites opens;
    valid = stood.valid;
    own = mine_begins c q (entries_by site ups) stood;
    represents = stood.represents;
    messages = (most, are ∙ (λ i. take most (drop (at i) (messages_of c.size (seen_by q) (sym s.site_is i)))));
  }

  pub count : length downs ≡ min most (length (seen_by q) - c.taken)
  count =
      ap (λ (l : List Down). length l) are
      ∙ (length-take most (drop from (messages_of c.size (seen_by q) site.0))
      ∙ ap (min most) (length-drop from (messages_of c.size (seen_by q) site.0) ∙ (λ i. length-map-range_with_len (down_at c.size (seen_by q) site.0) 0 (length (seen_by q)) i - at i)))

  -- once some of them are taken
  pub took : (d : ClientState) (n long : ℕ) → long ≡ length (seen_by q) → HasTakenMore n c d → ClientRepresents d (seen_by q) (made_in q ++ entries_by site ups) → IsSession site d q long ups
  took d n long is t represents = record {
    site_is = t.site ∙ s.site_is;
    length_is = is;
    stands = took_stands c d q (entries_by site ups) n stood t represents;
  }

none_of : (most rest : ℕ) → min most rest ≡ 0 → (most ≡ 0) ⊎ (rest ≡ 0)
none_of zero rest e = inl refl
none_of (suc m) zero e = inr refl
none_of (suc m) (suc r) e = absurd (omega (arith, e))

-- nothing is taken exactly where nothing was asked for or all had been taken
pub none_taken : (n most taken long : ℕ) → taken ≤ long → n ≡ min most (long - taken) → (n ≡ 0) ↔ ((most ≡ 0) ⊎ (taken ≡ long))
none_taken n most taken long within is = (on_zero, on_right)
  where
    on_left : (most ≡ 0) ⊎ (long - taken ≡ 0) → (most ≡ 0) ⊎ (taken ≡ long)
    on_left (inl e) = inl e
    on_left (inr e) = inr (omega (arith, e, within))

    on_zero : n ≡ 0 → (most ≡ 0) ⊎ (taken ≡ long)
    on_zero e = on_left (none_of most (long - taken) (sym is ∙ e))

    on_right : (most ≡ 0) ⊎ (taken ≡ long) → n ≡ 0
    on_right (inl e) = omega (arith, is, e)
    on_right (inr e) = omega (arith, is, e)

-- ---- a sync
-- a site has no more own entries than it issued
pub few_own : (c : ClientState) (p : PassOf Entry) (waiting : List Entry) → ReplicaStands c p waiting → length (made_in p ++ waiting) ≤ 1000
few_own c p waiting s =
    let count : c.issued ≡ operations (made_in p ++ waiting) = s.represents.issued in
    let few : c.issued ≤ 1000 = s.issued in
    let long : length (made_in p ++ waiting) ≤ operations (made_in p ++ waiting) = length-operations (made_in p ++ waiting) in
    omega (arith, count, few, long)

-- so no more wait, where all own ones are as they were
pub few_wait : (made old new : List Entry) → new ≡ made ++ old → length new ≤ 1000 → length old ≤ 1000
few_wait made old new is few = let parts : length new ≡ length made + length old = ap (λ (l : List Entry). length l) is ∙ length-append made old in omega (arith, parts, few)

-- what is said of a call that was refused
pub on_err : {T E A : Type 0} (x : Result T E) → A → OnErr x A
on_err (Ok y) a = tt
on_err (Err e) a = a

-- where all may be pushed, none is left
pub none_left : (left : List Entry) (waiting : ℕ) (n most : ℕ) → waiting ≡ n + length left → n ≡ min most waiting → waiting ≤ most → left ≡ []
none_left [] waiting n most split is few = refl
none_left (e ∷ left) waiting n most split is few = absurd (omega (arith, split, is, few))
