-- What pushes leave.
use Rattle.std.proofs.Common.{◌≡◌, ℕ, suc, ◌+◌, ◌≤◌, true, nat_eq, List, [], ◌∷◌, ◌++◌, length, map, drop, refl, ap, sym, ◌∙◌, subst, arith, length-append, append_assoc}
use Rattle.std.proofs.lemmas.List.{append-nil}
use Rattle.std.proofs.Math.Seq.{drop-append_seam}
use Rattle.std.proofs.lemmas.Bool.Decides.{nat_tests}
use Rattle.ss_base.specs.declared.types.Size.{Size}
use Rattle.ss_base.specs.declared.types.Site.{Site}
use Rattle.ss_base.specs.Lists.{IsPrefixOf}
use Rattle.sheet_ops.specs.declared.operation.Entry.{Entry}
use Rattle.sheet_ops.specs.declared.operation.Up.{Up}
use Rattle.sheet_ops.specs.History.{own_entries, IsValidHistory}
use Rattle.sheet_ops.specs.Represents.{ClientState, ClientRepresents}
use Rattle.sheet_ops.proofs.Counts.{own_one_more}
use Rattle.turn_book.specs.declared.kept.Made.{Made}
use Rattle.turn_book.specs.Entries.{entries_of}
use Rattle.turn_book.specs.Passes.{PassOf, IsSamePass, seen_by, made_in}
use Rattle.jup_server.specs.Servers.{entry_of}
use Rattle.jup_client.proofs.Longer.{goes_on, may_come}
use Rattle.hub.specs.Hubs.{HubOf, opening_of}
use Rattle.hub.specs.BookEntries.{book_entries, book_entries_from, book_entry}
use Rattle.hub.proofs.Histories.{book_entries_more}
use Rattle.live_session.specs.Sessions.{ReplicaStands, entries_by}
use Rattle.live_session.specs.Pushing.{Pushes, MayPushFirst, StandsIn, Finds, with_entries}
use Rattle.live_session.proofs.Holding.{items, own_found, seen_begins, seen_left, stands_left}

same_number : (n : ℕ) → nat_eq n n ≡ true
same_number n = grind (arith, nat_tests)

pub pushed_none : (site : Site) (hub : HubOf) (waiting : List Up) → Pushes site hub hub waiting waiting
pushed_none site hub waiting = record { pushed = []; hub_is = λ i. record hub { entries = sym (append-nil hub.entries) i }; split = refl }

entries_more : (site : Site) (ups : List Up) (up : Up) → entries_by site ups ++ entry_of site.0 up ∷ [] ≡ entries_by site (ups ++ up ∷ [])
entries_more site [] up = refl
entries_more site (x ∷ ups) up = ap (λ (l : List Entry). entry_of site.0 x ∷ l) (entries_more site ups up)

entries_append : (site : Site) (xs ys : List Up) → entries_by site (xs ++ ys) ≡ entries_by site xs ++ entries_by site ys
entries_append site [] ys = refl
entries_append site (x ∷ xs) ys = ap (λ (l : List Entry). entry_of site.0 x ∷ l) (entries_append site xs ys)

pub pushed_one : (site : Site) (old mid new : HubOf) (waiting left : List Up) (up : Up) → Pushes site old mid waiting (up ∷ left) → new ≡ with_entries mid (entry_of site.0 up ∷ []) → Pushes site old new waiting left
pushed_one site old mid new waiting left up p is =
    let e = entry_of site.0 up in
    let more : (old.entries ++ entries_by site p.pushed) ++ e ∷ [] ≡ old.entries ++ entries_by site (p.pushed ++ up ∷ []) =
    append_assoc old.entries (entries_by site p.pushed) (e ∷ []) ∙ ap (λ (l : List Entry). old.entries ++ l) (entries_more site p.pushed up) in
    record {
      pushed = p.pushed ++ up ∷ [];
      hub_is = is ∙ (ap (λ (h : HubOf). with_entries h (e ∷ [])) p.hub_is ∙ (λ i. record old { entries = more i }));
      split = p.split ∙ sym (append_assoc p.pushed (up ∷ []) left);
    }

-- the first that waits may come next
pub first_may : (site : Site) (c : ClientState) (hub : HubOf) (waiting : List Up) → StandsIn hub c site.0 (entries_by site waiting) → MayPushFirst site hub waiting
first_may site c hub [] s = tt
first_may site c hub (up ∷ ups) s =
    let valid : IsValidHistory c.size hub.sites hub.entries = subst (λ (z : Size). IsValidHistory z hub.sites hub.entries) (sym s.size) s.valid in
    subst (λ (z : Size). IsValidHistory z hub.sites (hub.entries ++ entry_of site.0 up ∷ [])) s.size
    (may_come c hub.sites hub.entries (entries_by site ups) (entry_of site.0 up) valid s.represents (sym s.site_is) s.from s.to s.issued)

pub stands_one : (site : Site) (c : ClientState) (mid new : HubOf) (up : Up) (left : List Up) → new ≡ with_entries mid (entry_of site.0 up ∷ []) → IsValidHistory new.size new.sites new.entries
    → StandsIn mid c site.0 (entries_by site (up ∷ left)) → StandsIn new c site.0 (entries_by site left)
stands_one site c mid new up left is valid s =
    let e = entry_of site.0 up in
    let H = mid.entries in
    let rest = entries_by site left in
    let mine : nat_eq e.site.0 c.site ≡ true = subst (λ (n : ℕ). nat_eq site.0 n ≡ true) (sym s.site_is) (same_number site.0) in
    let own : own_entries c.site (H ++ e ∷ []) ≡ own_entries c.site H ++ e ∷ [] = own_one_more c.site H e mine in
    let G : own_entries c.site H ++ e ∷ rest ≡ own_entries c.site (H ++ e ∷ []) ++ rest = sym (append_assoc (own_entries c.site H) (e ∷ []) rest) ∙ ap (λ (l : List Entry). l ++ rest) (sym own) in
    let begins : IsPrefixOf (own_entries c.site (H ++ e ∷ [])) (own_entries c.site H ++ e ∷ rest) = (rest, sym G) in
    let r : ClientRepresents c (H ++ e ∷ []) (own_entries c.site (H ++ e ∷ []) ++ rest) = subst (ClientRepresents c (H ++ e ∷ [])) G (goes_on c H (H ++ e ∷ []) (own_entries c.site H ++ e ∷ rest) s.represents (e ∷ [], refl) begins) in
    record {
      size = s.size ∙ ap (λ (h : HubOf). h.size) (sym is);
      site_is = s.site_is;
      from = s.from;
      to = subst (λ (h : HubOf). c.site ≤ h.sites) (sym is) s.to;
      issued = s.issued;
      valid = valid;
      represents = subst (λ (h : HubOf). ClientRepresents c h.entries (own_entries c.site h.entries ++ rest)) (sym is) r;
    }

own_more : (site : Site) (H : List Entry) (up : Up) → own_entries site.0 (H ++ entry_of site.0 up ∷ []) ≡ own_entries site.0 H ++ entry_of site.0 up ∷ []
own_more site H up = own_one_more site.0 H (entry_of site.0 up) (same_number site.0)

-- entries of one site behind a history, as the book sees them
book_entries_own : (before H : List Entry) (site : Site) (ups : List Up) → book_entries_from before (H ++ entries_by site ups) ≡ book_entries_from before H ++ entries_of site.0 (length (own_entries site.0 (before ++ H))) (entries_by site ups)
book_entries_own before H site [] = ap (book_entries_from before) (append-nil H) ∙ sym (append-nil (book_entries_from before H))
book_entries_own before H site (up ∷ ups) =
    let e = entry_of site.0 up in
    let n : length (own_entries site.0 ((before ++ H) ++ e ∷ [])) ≡ length (own_entries site.0 (before ++ H)) + 1 = ap length (own_more site (before ++ H) up) ∙ length-append (own_entries site.0 (before ++ H)) (e ∷ []) in
    let all : length (own_entries site.0 (before ++ (H ++ e ∷ []))) ≡ length (own_entries site.0 (before ++ H)) + 1 = ap (λ (l : List Entry). length (own_entries site.0 l)) (sym (append_assoc before H (e ∷ []))) ∙ n in
    ap (book_entries_from before) (sym (append_assoc H (e ∷ []) (entries_by site ups)))
    ∙ (book_entries_own before (H ++ e ∷ []) site ups
    ∙ (ap (λ (k : ℕ). book_entries_from before (H ++ e ∷ []) ++ entries_of site.0 k (entries_by site ups)) all
    ∙ (ap (λ (l : List (Made Entry)). l ++ entries_of site.0 (length (own_entries site.0 (before ++ H)) + 1) (entries_by site ups)) (book_entries_more before H e)
    ∙ append_assoc (book_entries_from before H) (book_entry (before ++ H) e ∷ []) (entries_of site.0 (length (own_entries site.0 (before ++ H)) + 1) (entries_by site ups)))))

own_many : (H : List Entry) (site : Site) (ups : List Up) → own_entries site.0 (H ++ entries_by site ups) ≡ own_entries site.0 H ++ entries_by site ups
own_many H site [] = ap (own_entries site.0) (append-nil H) ∙ sym (append-nil (own_entries site.0 H))
own_many H site (up ∷ ups) =
    let e = entry_of site.0 up in
    ap (own_entries site.0) (sym (append_assoc H (e ∷ []) (entries_by site ups)))
    ∙ (own_many (H ++ e ∷ []) site ups ∙ (ap (λ (l : List Entry). l ++ entries_by site ups) (own_more site H up) ∙ append_assoc (own_entries site.0 H) (e ∷ []) (entries_by site ups)))

length_items : (ms : List (Made Entry)) → length (items ms) ≡ length ms
length_items [] = refl
length_items (m ∷ ms) = ap suc (length_items ms)

items_entries : (n k : ℕ) (es : List Entry) → items (entries_of n k es) ≡ es
items_entries n k [] = refl
items_entries n k (e ∷ es) = ap (λ (l : List Entry). e ∷ l) (items_entries n (k + 1) es)

items_append : (xs ys : List (Made Entry)) → items (xs ++ ys) ≡ items xs ++ items ys
items_append [] ys = refl
items_append (x ∷ xs) ys = ap (λ (l : List Entry). x.item ∷ l) (items_append xs ys)

-- a hold in which some of what waited was pushed
module _ (p : PassOf Entry) (site : Site) (old new : HubOf) (waiting left : List Up) (number : p.number ≡ site.0) (f : Finds p old) (w : Pushes site old new waiting left) where
  own_old : own_entries site.0 old.entries ≡ made_in p
  own_old = ap (λ (n : ℕ). own_entries n old.entries) (sym number) ∙ own_found p old f

  pub adds_own : book_entries new.entries ≡ book_entries old.entries ++ entries_of p.number (length p.made) (entries_by site w.pushed)
  adds_own =
      let count : length (own_entries site.0 old.entries) ≡ length p.made = ap length own_old ∙ length_items p.made in
      ap (λ (h : HubOf). book_entries h.entries) w.hub_is
      ∙ (book_entries_own [] old.entries site w.pushed
      ∙ (ap (λ (k : ℕ). book_entries old.entries ++ entries_of site.0 k (entries_by site w.pushed)) count
      ∙ ap (λ (n : ℕ). book_entries old.entries ++ entries_of n (length p.made) (entries_by site w.pushed)) (sym number)))

  module _ (q : PassOf Entry) (made : q.made ≡ p.made ++ drop (length (book_entries old.entries)) (book_entries new.entries)) where
    made_left : made_in q ≡ made_in p ++ entries_by site w.pushed
    made_left =
        let fresh = entries_of p.number (length p.made) (entries_by site w.pushed) in
        let rest : drop (length (book_entries old.entries)) (book_entries new.entries) ≡ fresh = ap (drop (length (book_entries old.entries))) adds_own ∙ drop-append_seam (book_entries old.entries) fresh in
        ap items made ∙ (ap (λ (l : List (Made Entry)). items (p.made ++ l)) rest ∙ (items_append p.made fresh ∙ ap (λ (l : List Entry). made_in p ++ l) (items_entries p.number (length p.made) (entries_by site w.pushed))))

    -- what was made and what waits together stay the same
    pub own_same : made_in q ++ entries_by site left ≡ made_in p ++ entries_by site waiting
    own_same =
        ap (λ (l : List Entry). l ++ entries_by site left) made_left
        ∙ (append_assoc (made_in p) (entries_by site w.pushed) (entries_by site left)
        ∙ ap (λ (l : List Entry). made_in p ++ l) (sym (entries_append site w.pushed left) ∙ ap (entries_by site) (sym w.split)))

    pub own_left : made_in q ≡ own_entries site.0 new.entries
    own_left =
        made_left
        ∙ (ap (λ (l : List Entry). l ++ entries_by site w.pushed) (sym own_old)
        ∙ (sym (own_many old.entries site w.pushed) ∙ ap (λ (h : HubOf). own_entries site.0 h.entries) (sym w.hub_is)))

    -- the replica stands where the hold was left
    pub stands_pushed : (c : ClientState) → c.site ≡ site.0 → StandsIn new c site.0 (entries_by site left) → IsSamePass p q → q.seen ≡ book_entries new.entries → ReplicaStands c q (entries_by site left)
    stands_pushed c is s same seen =
        let opening : opening_of new.size new.sites ≡ p.opening = ap (λ (h : HubOf). opening_of h.size h.sites) w.hub_is ∙ f.opening in
        stands_left p q new c site.0 (entries_by site left) s (number ∙ sym is) opening same seen (own_left ∙ ap (λ (n : ℕ). own_entries n new.entries) (sym is))

  pub seen_grows : (q : PassOf Entry) → q.seen ≡ book_entries new.entries → IsPrefixOf (seen_by p) (seen_by q)
  seen_grows q seen =
      let here = seen_begins p old f in
      let all : seen_by q ≡ old.entries ++ entries_by site w.pushed = seen_left q new.entries seen ∙ ap (λ (h : HubOf). h.entries) w.hub_is in
      (here.0 ++ entries_by site w.pushed, sym (append_assoc (seen_by p) here.0 (entries_by site w.pushed)) ∙ (ap (λ (l : List Entry). l ++ entries_by site w.pushed) here.1 ∙ sym all))
