-- What a pass finds in a hold, and what it leaves.
use Rattle.std.proofs.Common.{◌≡◌, ℕ, ◌≤◌, List, [], ◌∷◌, ◌++◌, length, map, drop, refl, ap, sym, ◌∙◌, subst, arith}
use Rattle.std.proofs.lemmas.List.{append-nil, length-append}
use Rattle.std.proofs.Math.Seq.{drop-length}
use Rattle.ss_base.specs.declared.types.Size.{Size}
use Rattle.ss_base.specs.Lists.{IsPrefixOf}
use Rattle.sheet_ops.specs.declared.operation.Entry.{Entry}
use Rattle.sheet_ops.specs.History.{own_entries, IsValidHistory}
use Rattle.sheet_ops.specs.Represents.{ClientState, ClientRepresents}
use Rattle.turn_book.specs.declared.kept.Made.{Made}
use Rattle.turn_book.specs.Entries.{made_by}
use Rattle.turn_book.specs.Passes.{PassOf, IsSamePass, seen_by, made_in}
use Rattle.jup_client.proofs.Longer.{goes_on}
use Rattle.hub.specs.Hubs.{HubOf, opening_of}
use Rattle.hub.specs.BookEntries.{book_entries}
use Rattle.hub.specs.Messages.{messages_of}
use Rattle.hub.proofs.Histories.{items_of, made_items}
use Rattle.live_session.specs.Sessions.{ReplicaStands}
use Rattle.live_session.specs.Pushing.{StandsIn, Finds}

abbrev pub items : List (Made Entry) → List Entry
items ms = map (λ (m : Made Entry). m.item) ms

pub same_size : (a b : Size) (m n : ℕ) → opening_of a m ≡ opening_of b n → a ≡ b
same_size a b m n e = let rows : a.rows ≡ b.rows = cc (e) in let cols : a.cols ≡ b.cols = cc (e) in λ i. record { rows = rows i; cols = cols i }

pub same_sites : (a b : Size) (m n : ℕ) → opening_of a m ≡ opening_of b n → m ≡ n
same_sites a b m n e = cc (e)

items_begin : (xs ys : List (Made Entry)) → IsPrefixOf xs ys → IsPrefixOf (items xs) (items ys)
items_begin [] ys p = (items ys, refl)
items_begin (x ∷ xs) [] p = absurd (cc (p.1))
items_begin (x ∷ xs) (y ∷ ys) p = let rest = items_begin xs ys (p.0, cc (p.1)) in let head : x ≡ y = cc (p.1) in (rest.0, cc (head, rest.1))

pub finds : (pass : PassOf Entry) (found hub : HubOf) → hub ≡ found → opening_of found.size found.sites ≡ pass.opening → IsPrefixOf pass.seen (book_entries found.entries) → made_by pass.number (book_entries found.entries) ≡ pass.made → Finds pass hub
finds pass found hub same opening seen made = subst (Finds pass) (sym same) (record { opening = opening; seen = seen; made = made })

module _ (p : PassOf Entry) (hub : HubOf) (f : Finds p hub) where
  pub seen_begins : IsPrefixOf (seen_by p) hub.entries
  seen_begins = subst (IsPrefixOf (seen_by p)) (items_of [] hub.entries) (items_begin p.seen (book_entries hub.entries) f.seen)

  pub own_found : own_entries p.number hub.entries ≡ made_in p
  own_found = sym (made_items p.number [] hub.entries) ∙ ap items f.made

  -- the replica stands in the hold
  pub stands_found : (c : ClientState) (site : ℕ) (waiting : List Entry) → c.site ≡ site → ReplicaStands c p waiting → IsValidHistory hub.size hub.sites hub.entries → StandsIn hub c site waiting
  stands_found c site waiting site_is s valid =
      let opens : opening_of c.size s.sites ≡ opening_of hub.size hub.sites = sym s.opening ∙ sym f.opening in
      let own : own_entries c.site hub.entries ≡ made_in p = ap (λ (n : ℕ). own_entries n hub.entries) (sym s.number) ∙ own_found in
      let mine : IsPrefixOf (own_entries c.site hub.entries) (made_in p ++ waiting) = (waiting, ap (λ (l : List Entry). l ++ waiting) own) in
      record {
        size = same_size c.size hub.size s.sites hub.sites opens;
        site_is = site_is;
        from = s.from;
        to = subst (λ (n : ℕ). c.site ≤ n) (same_sites c.size hub.size s.sites hub.sites opens) s.to;
        issued = s.issued;
        valid = valid;
        represents = subst (λ (l : List Entry). ClientRepresents c hub.entries (l ++ waiting)) (sym own) (goes_on c (seen_by p) hub.entries (made_in p ++ waiting) s.represents seen_begins mine);
      }

-- the history that a pass has seen after a hold
pub seen_left : (q : PassOf Entry) (H : List Entry) → q.seen ≡ book_entries H → seen_by q ≡ H
seen_left q H seen = ap items seen ∙ items_of [] H

-- the replica stands where the hold was left
pub stands_left : (p q : PassOf Entry) (hub : HubOf) (c : ClientState) (site : ℕ) (waiting : List Entry) → StandsIn hub c site waiting → p.number ≡ c.site → opening_of hub.size hub.sites ≡ p.opening → IsSamePass p q → q.seen ≡ book_entries hub.entries
    → made_in q ≡ own_entries c.site hub.entries → ReplicaStands c q waiting
stands_left p q hub c site waiting s number opening same seen made =
    let H : seen_by q ≡ hub.entries = seen_left q hub.entries seen in
    let valid : IsValidHistory c.size hub.sites hub.entries = subst (λ (z : Size). IsValidHistory z hub.sites hub.entries) (sym s.size) s.valid in
    record {
      sites = hub.sites;
      opening = same.opening ∙ (sym opening ∙ ap (λ (z : Size). opening_of z hub.sites) (sym s.size));
      from = s.from;
      to = s.to;
      number = same.number ∙ number;
      issued = s.issued;
      valid = subst (IsValidHistory c.size hub.sites) (sym H) valid;
      own = ap (own_entries c.site) H ∙ sym made;
      represents = subst (λ (l : List Entry). ClientRepresents c (seen_by q) (l ++ waiting)) (sym made) (subst (λ (l : List Entry). ClientRepresents c l (own_entries c.site hub.entries ++ waiting)) (sym H) s.represents);
    }

-- a hold that adds nothing
pub stands_still : (p q : PassOf Entry) (hub : HubOf) (c : ClientState) (waiting : List Entry) → Finds p hub → IsValidHistory hub.size hub.sites hub.entries → IsSamePass p q → q.seen ≡ book_entries hub.entries → q.made ≡ p.made → ReplicaStands c p waiting → ReplicaStands c q waiting
stands_still p q hub c waiting f valid same seen made s =
    stands_left p q hub c c.site waiting (stands_found p hub f c c.site waiting refl s valid) s.number f.opening same seen
    (ap items made ∙ (sym (own_found p hub f) ∙ ap (λ (n : ℕ). own_entries n hub.entries) s.number))

-- a hold that adds nothing makes nothing
pub made_still : (p q : PassOf Entry) (found : List (Made Entry)) (H : List Entry) → found ≡ book_entries H → q.made ≡ p.made ++ drop (length found) (book_entries H) → q.made ≡ p.made
made_still p q found H is made =
    made
    ∙ (ap (λ (l : List (Made Entry)). p.made ++ drop (length l) (book_entries H)) is
    ∙ (ap (λ (l : List (Made Entry)). p.made ++ l) (drop-length (book_entries H)) ∙ append-nil p.made))

pub grows_still : (p q : PassOf Entry) (hub : HubOf) → Finds p hub → q.seen ≡ book_entries hub.entries → IsPrefixOf (seen_by p) (seen_by q)
grows_still p q hub f seen = subst (IsPrefixOf (seen_by p)) (sym (seen_left q hub.entries seen)) (seen_begins p hub f)

-- what a pass has seen isn't longer than the history
pub within_found : (p : PassOf Entry) (hub : HubOf) → Finds p hub → (from : ℕ) → from ≤ length (seen_by p) → from ≤ length hub.entries
within_found p hub f from h = let begins = seen_begins p hub f in omega (arith, h, ap length begins.1, length-append (seen_by p) begins.0)

-- the messages of the history that a pass has seen after a hold
pub messages_left : (p q : PassOf Entry) (hub : HubOf) (site : ℕ) → Finds p hub → q.seen ≡ book_entries hub.entries → (size : Size) (sites : ℕ) → p.opening ≡ opening_of size sites → messages_of hub.size hub.entries site ≡ messages_of size (seen_by q) site
messages_left p q hub site f seen size sites opens =
    let sized : hub.size ≡ size = same_size hub.size size hub.sites sites (f.opening ∙ opens) in
    let whole : hub.entries ≡ seen_by q = sym (seen_left q hub.entries seen) in
    λ i. messages_of (sized i) (whole i) site
