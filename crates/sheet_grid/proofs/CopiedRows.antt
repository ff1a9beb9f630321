-- A map that is copied in the order of its keys.
use Rattle.std.proofs.Common.{Ordering, Less, Equal, Greater, ◌≡◌, ℕ, ◌<◌, List, [], ◌∷◌, ◌++◌, refl, ap, sym, ◌∙◌, subst, arith, append_assoc}
use Rattle.std.specs.List.{AllByRecursion}
use Rattle.std.specs.List.Sorted.{IsStrictlySortedBy}
use Rattle.std.specs.Ordering.{nat_cmp, match_ordering, MatchOrdering}
use Rattle.std.specs.Map.{keys_of, lookup}
use Rattle.std.specs.BTreeMap.{BTreeMap, is_at, insert_entry}
use Rattle.std.proofs.lemmas.Cmp.{ranked}
use Rattle.std.proofs.lemmas.Map.Keys.{sorted_head, sorted_tail}
use Rattle.sheet_ops.specs.declared.content.Content.{Content}
use Rattle.sheet_grid.specs.Kept.{held}

abbrev Entries : Type 0
Entries = List (ℕ × Content)

greater : (a b : ℕ) → b < a → nat_cmp a b ≡ Greater
greater a b h = by_rank (nat_cmp a b) refl
  where
    by_rank : (r : Ordering) → r ≡ nat_cmp a b → nat_cmp a b ≡ Greater
    by_rank Less e = let lt : a < b = ranked a b Less e in absurd (omega arith)
    by_rank Equal e = let same : a ≡ b = ranked a b Equal e in absurd (omega arith)
    by_rank Greater e = sym e

above_all : (es : Entries) (k : ℕ) (v : Content) (rest : Entries) (x : ℕ) → AllByRecursion (λ y. nat_cmp x y ≡ Less) (keys_of (es ++ (k, v) ∷ rest)) → x < k
above_all [] k v rest x all = subst (λ o. MatchOrdering o (x < k) (x ≡ k) (k < x)) all.0 (ranked x k (nat_cmp x k) refl)
above_all (e ∷ es) k v rest x all = above_all es k v rest x all.1

insert_last : (es : Entries) (k : ℕ) (v : Content) (rest : Entries) → IsStrictlySortedBy nat_cmp (keys_of (es ++ (k, v) ∷ rest)) → insert_entry nat_cmp es k v ≡ es ++ (k, v) ∷ []
insert_last [] k v rest up = refl
insert_last (e ∷ es) k v rest up =
    let above = above_all es k v rest e.0 (sorted_head nat_cmp e.0 (keys_of (es ++ (k, v) ∷ rest)) up) in
    ap (λ (o : Ordering). match_ordering o ((k, v) ∷ e ∷ es) ((e.0, v) ∷ es) (e ∷ insert_entry nat_cmp es k v)) (greater k e.0 above)
    ∙ ap (λ (fs : Entries). e ∷ fs) (insert_last es k v rest (sorted_tail nat_cmp e.0 (keys_of (es ++ (k, v) ∷ rest)) up))

pub entry_more : (es : Entries) (k : ℕ) (v : Content) (rest all : Entries) → IsStrictlySortedBy nat_cmp (keys_of all) → es ++ (k, v) ∷ rest ≡ all → insert_entry nat_cmp es k v ++ rest ≡ all
entry_more es k v rest all up is =
    ap (λ (fs : Entries). fs ++ rest) (insert_last es k v rest (subst (λ (fs : Entries). IsStrictlySortedBy nat_cmp (keys_of fs)) (sym is) up)) ∙ (append_assoc es ((k, v) ∷ []) rest ∙ is)

pub held_same : (m n : BTreeMap ℕ Content) → m.entries ≡ n.entries → held m ≡ held n
held_same m n e = λ i col. lookup (is_at (nat_cmp col)) (e i)
