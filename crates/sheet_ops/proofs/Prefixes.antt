-- A history cut at a place.
use Rattle.std.proofs.Common.{◌≡◌, ℕ, zero, suc, ◌<◌, ◌≤◌, List, [], ◌∷◌, ◌++◌, length, take, drop, refl, ap, sym, ◌∙◌, subst, arith, append_assoc, inl, inr}
use Rattle.std.specs.Prelude.{◌⊎◌, nat_eq, reverse}
use Rattle.std.proofs.lemmas.List.{reverse-append, take-append-drop}
use Rattle.std.proofs.lemmas.List.Elements.{filter-append}
use Rattle.ss_base.specs.declared.types.Size.{Size}
use Rattle.ss_base.specs.Lists.{IsPrefixOf}
use Rattle.sheet_ops.specs.declared.operation.Entry.{Entry}
use Rattle.sheet_ops.specs.Identity.{IdOp, opened}
use Rattle.sheet_ops.specs.Act.{acts}
use Rattle.sheet_ops.specs.History.{own_entries, resolved, sheet_of, EachFollows, IsValidHistory}
use Rattle.sheet_ops.specs.Represents.{sheet_at, entry_at}
use Rattle.sheet_ops.proofs.Acknowledged.{resolved_front}
use Rattle.sheet_ops.proofs.Histories.{length-resolved}

-- the entries before a place, the entry there, and those behind it
pub split_at : (H : List Entry) (k : ℕ) → k < length H → (take k H ++ entry_at H k ∷ []) ++ drop (suc k) H ≡ H
split_at [] k h = absurd (omega arith)
split_at (x ∷ H) zero h = refl
split_at (x ∷ H) (suc k) h = ap (λ (es : List Entry). x ∷ es) (split_at H k (omega arith))

pub take_suc : (H : List Entry) (k : ℕ) → k < length H → take (suc k) H ≡ take k H ++ entry_at H k ∷ []
take_suc [] k h = absurd (omega arith)
take_suc (x ∷ H) zero h = refl
take_suc (x ∷ H) (suc k) h = ap (λ (es : List Entry). x ∷ es) (take_suc H k (omega arith))

behind : (size : Size) (sites : ℕ) (xs ys : List Entry) → EachFollows size sites (xs ++ ys) → EachFollows size sites ys
behind size sites [] ys v = v
behind size sites (x ∷ xs) ys v = behind size sites xs ys v.1

-- the beginning of a valid history is valid
pub valid_front : (size : Size) (sites : ℕ) (H more : List Entry) → IsValidHistory size sites (H ++ more) → IsValidHistory size sites H
valid_front size sites H more v = behind size sites (reverse more) (reverse H) (subst (EachFollows size sites) (reverse-append H more) v)

-- the sheet after the entries before a place
pub sheet_front : (size : Size) (H more : List Entry) → sheet_at size (H ++ more) (length H) ≡ sheet_of size H
sheet_front size H more =
    let n = length-resolved size H in
    ap (acts (opened size)) (resolved_front size more H (length H) (omega arith) ∙ whole (resolved size H) (length H) (omega arith))
  where
    whole : (Rs : List IdOp) (k : ℕ) → length Rs ≤ k → take k Rs ≡ Rs
    whole [] zero h = refl
    whole [] (suc k) h = refl
    whole (R ∷ Rs) zero h = absurd (omega arith)
    whole (R ∷ Rs) (suc k) h = ap (λ (Ss : List IdOp). R ∷ Ss) (whole Rs k (omega arith))

-- the entry at a place, its line and its site don't depend on the rest
pub entry_front : (H more : List Entry) (k : ℕ) → k < length H → entry_at (H ++ more) k ≡ entry_at H k
entry_front [] more k h = absurd (omega arith)
entry_front (x ∷ H) more zero h = refl
entry_front (x ∷ H) more (suc k) h = entry_front H more k (omega arith)

-- own entries of a beginning begin the own entries
pub own_prefix : (site k : ℕ) (H : List Entry) → IsPrefixOf (own_entries site (take k H)) (own_entries site H)
own_prefix site k H =
    (own_entries site (drop k H), sym (filter-append (λ (f : Entry). nat_eq f.site.0 site) (take k H) (drop k H)) ∙ ap (own_entries site) (take-append-drop k H))

-- two beginnings of one list, the first not the longer one
pub prefix_of_both : {A : Type 0} (xs ys zs : List A) → IsPrefixOf xs zs → IsPrefixOf ys zs → length xs ≤ length ys → IsPrefixOf xs ys
prefix_of_both [] ys zs p q h = (ys, refl)
prefix_of_both (x ∷ xs) [] zs p q h = absurd (omega arith)
prefix_of_both {A} (x ∷ xs) (y ∷ ys) [] p q h = absurd (let n = ap length p.1 in omega arith)
prefix_of_both {A} (x ∷ xs) (y ∷ ys) (z ∷ zs) p q h =
    let (rest, is) = prefix_of_both xs ys zs (p.0, ap tail_of p.1) (q.0, ap tail_of q.1) (omega arith) in
    (rest, λ i. (ap (head_or x) p.1 ∙ sym (ap (head_or x) q.1)) i ∷ is i)
  where
    head_or : A → List A → A
    head_or d [] = d
    head_or d (b ∷ bs) = b

    tail_of : List A → List A
    tail_of [] = []
    tail_of (b ∷ bs) = bs

-- own entries that agree with those of the history hold those of each beginning that isn't longer
pub own_held : (site k : ℕ) (H G : List Entry) → (IsPrefixOf (own_entries site H) G ⊎ IsPrefixOf G (own_entries site H)) → length (own_entries site (take k H)) ≤ length G → IsPrefixOf (own_entries site (take k H)) G
own_held site k H G (inl (rest, is)) h =
    let (more, front) = own_prefix site k H in
    (more ++ rest, sym (append_assoc (own_entries site (take k H)) more rest) ∙ (ap (λ (es : List Entry). es ++ rest) front ∙ is))
own_held site k H G (inr p) h = prefix_of_both (own_entries site (take k H)) G (own_entries site H) (own_prefix site k H) p h
