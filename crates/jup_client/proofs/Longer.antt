-- A client beside a longer history, and what it may send.
use Rattle.std.proofs.Common.{◌≡◌, ℕ, ◌+◌, ◌<◌, ◌≤◌, List, [], ◌∷◌, ◌++◌, ap, sym, ◌∙◌, subst, append_assoc, arith, inl}
use Rattle.std.specs.Prelude.{nat_eq, reverse}
use Rattle.std.proofs.lemmas.List.{append-nil, reverse-append}
use Rattle.std.proofs.lemmas.List.Elements.{filter-append}
use Rattle.ss_base.specs.declared.types.Size.{Size}
use Rattle.ss_base.specs.Lists.{IsPrefixOf}
use Rattle.sheet_ops.specs.declared.operation.Entry.{Entry}
use Rattle.sheet_ops.specs.Naming.{operations_of}
use Rattle.sheet_ops.specs.Placed.{size_of}
use Rattle.sheet_ops.specs.Fits.{IntentFits}
use Rattle.sheet_ops.specs.History.{own_entries, operations, view_of, resolved, SeenRises, EachFits, IsValidHistory}
use Rattle.sheet_ops.specs.Represents.{last_seen, view_at, ClientState, ClientRepresents}
use Rattle.sheet_ops.proofs.Continued.{continued}
use Rattle.sheet_ops.proofs.Counts.{operations-append, operations-cons}
use Rattle.sheet_ops.proofs.Served.{valid_next}

front_prefix : (site : ℕ) (H more G : List Entry) → IsPrefixOf (own_entries site (H ++ more)) G → IsPrefixOf (own_entries site H) G
front_prefix site H more G (rest, is) = (
  own_entries site more ++ rest,
  sym (append_assoc (own_entries site H) (own_entries site more) rest)
      ∙ (ap (λ (es : List Entry). es ++ rest) (sym (filter-append (λ (f : Entry). nat_eq f.site.0 site) H more)) ∙ is),
)

longer : (c : ClientState) (H more G : List Entry) → ClientRepresents c H G → IsPrefixOf (own_entries c.site (H ++ more)) G → ClientRepresents c (H ++ more) G
longer c H [] G r p = subst (λ (es : List Entry). ClientRepresents c es G) (sym (append-nil H)) r
longer c H (e ∷ more) G r p =
    let assoc : (H ++ e ∷ []) ++ more ≡ H ++ e ∷ more = append_assoc H (e ∷ []) more in
    let p' : IsPrefixOf (own_entries c.site ((H ++ e ∷ []) ++ more)) G = subst (λ (es : List Entry). IsPrefixOf (own_entries c.site es) G) (sym assoc) p in
    subst (λ (es : List Entry). ClientRepresents c es G) assoc
    (longer c (H ++ e ∷ []) more G (continued c H G e r (inl (front_prefix c.site (H ++ e ∷ []) more G p'))) p')

pub goes_on : (c : ClientState) (H K G : List Entry) → ClientRepresents c H G → IsPrefixOf H K → IsPrefixOf (own_entries c.site K) G → ClientRepresents c K G
goes_on c H K G r (more, is) front =
    subst (λ (es : List Entry). ClientRepresents c es G) is (longer c H more G r (subst (λ (es : List Entry). IsPrefixOf (own_entries c.site es) G) (sym is) front))

-- ---- what may come next
rises_here : (most : ℕ) (xs : List Entry) (e : Entry) (ys : List Entry) → SeenRises most (xs ++ e ∷ ys) → (e.seen ≤ most) × SeenRises e.seen ys
rises_here most [] e ys r = r
rises_here most (x ∷ xs) e ys r = let h = rises_here x.seen xs e ys r.1 in let g = r.0 in (omega (arith, g, h.0), h.1)

fits_here : (size : Size) (H : List Entry) (site : ℕ) (xs : List Entry) (e : Entry) (ys : List Entry) → EachFits size H site (xs ++ e ∷ ys) → IntentFits (size_of (view_of size H (resolved size H) site e.seen ys)) e.intent
fits_here size H site [] e ys f = f.0
fits_here size H site (x ∷ xs) e ys f = fits_here size H site xs e ys f.1

first_seen : (most : ℕ) (G : List Entry) → SeenRises most G → last_seen G ≤ most
first_seen most [] r = omega arith
first_seen most (g ∷ G) r = r.0

module _ (c : ClientState) (sites : ℕ) (H rest : List Entry) (e : Entry) (valid : IsValidHistory c.size sites H) (r : ClientRepresents c H (own_entries c.site H ++ e ∷ rest)) where
  turned : reverse (own_entries c.site H ++ e ∷ rest) ≡ reverse rest ++ e ∷ reverse (own_entries c.site H)
  turned =
      ap (λ (es : List Entry). reverse es) (sym (append_assoc (own_entries c.site H) (e ∷ []) rest))
      ∙ (reverse-append (own_entries c.site H ++ e ∷ []) rest ∙ ap (λ (es : List Entry). reverse rest ++ es) (reverse-append (own_entries c.site H) (e ∷ [])))

  rises : (e.seen ≤ c.taken) × SeenRises e.seen (reverse (own_entries c.site H))
  rises = rises_here c.taken (reverse rest) e (reverse (own_entries c.site H)) (subst (SeenRises c.taken) turned r.ordered.rises)

  fits : IntentFits (size_of (view_at c.size H c.site e.seen)) e.intent
  fits = fits_here c.size H c.site (reverse rest) e (reverse (own_entries c.site H)) (subst (EachFits c.size H c.site) turned r.ordered.fits)

  few : c.issued ≤ 1000 → operations (own_entries c.site H) + operations_of e.intent ≤ 1000
  few all =
      let a = operations-append (own_entries c.site H) (e ∷ rest) in
      let b = operations-cons e rest in
      let n = r.issued in
      omega (arith, a, b, n, all)

  next : (site : ℕ) → site ≡ c.site → 0 < site → site ≤ sites → c.issued ≤ 1000 → IsValidHistory c.size sites (H ++ record { site = record { 0 = site }; seen = e.seen; intent = e.intent } ∷ [])
  next site is from to all =
      valid_next c.size sites H valid site e.seen e.intent from to
      (let w = r.within in omega (arith, rises.0, w))
      (subst (λ n. last_seen (reverse (own_entries n H)) ≤ e.seen) (sym is) (first_seen e.seen (reverse (own_entries c.site H)) rises.1))
      (subst (λ n. operations (own_entries n H) + operations_of e.intent ≤ 1000) (sym is) (few all))
      (subst (λ n. IntentFits (size_of (view_at c.size H n e.seen)) e.intent) (sym is) fits)

  pub may_come : e.site.0 ≡ c.site → 0 < c.site → c.site ≤ sites → c.issued ≤ 1000 → IsValidHistory c.size sites (H ++ e ∷ [])
  may_come is from to all = next e.site.0 is (subst (λ n. 0 < n) (sym is) from) (subst (λ n. n ≤ sites) (sym is) to) all
