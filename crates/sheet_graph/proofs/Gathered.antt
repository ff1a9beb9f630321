-- The filled cells are gathered by columns.
use Rattle.std.proofs.Common.{◌≡◌, ◌≢◌, ℕ, zero, suc, ◌+◌, ◌<◌, ◌≤◌, Bool, true, false, List, [], ◌∷◌, ◌++◌, length, replicate, refl, ap, sym, ◌∙◌, subst, arith, inl, inr, get_or-set_same, get_or-set_other}
use Rattle.std.specs.Prelude.{◌⊎◌, nat_eq, slice_set}
use Rattle.std.specs.List.{AllByRecursion}
use Rattle.std.proofs.lemmas.List.{length-set}
use Rattle.std.proofs.lemmas.Bool.Decides.{nat_tests}
use Rattle.sheet_ops.specs.Placed.{PlacedSheet}
use Rattle.sheet_ops.specs.declared.content.Content.TheVariants as content
use Rattle.cell_walk.specs.Walks.{IsIn}
use Rattle.sheet_graph.specs.Graphs.{content_seen, HoldsFilled}
use Rattle.sheet_graph.specs.Filled.{rows_in_column, IsUp, HoldsRows, AreFilledTo}
use Rattle.sheet_graph.specs.Cursor.{less_or_not}
use Rattle.sheet_graph.proofs.Building.{in_push, push_in}

same_or_not : (m n : ℕ) → (m ≡ n) ⊎ (m ≢ n)
same_or_not m n = by_test (nat_eq m n) refl
  where
    by_test : (b : Bool) → nat_eq m n ≡ b → (m ≡ n) ⊎ (m ≢ n)
    by_test true e = inl (grind (arith, nat_tests))
    by_test false e = inr (λ p. grind (arith, nat_tests))

all_of : (row : ℕ) (rows : List ℕ) → ((r : ℕ) → IsIn r rows → r < row) → AllByRecursion (λ r. r < row) rows
all_of row [] h = tt
all_of row (r ∷ rows) h = (h r (inl refl), all_of row rows (λ q i. h q (inr i)))

up_push : (rows : List ℕ) (row : ℕ) → IsUp rows → AllByRecursion (λ r. r < row) rows → IsUp (rows ++ row ∷ [])
up_push [] row h k = (tt, tt)
up_push (r ∷ rows) row h k = (more rows h.0, up_push rows row h.1 k.1)
  where
    more : (qs : List ℕ) → AllByRecursion (λ q. r < q) qs → AllByRecursion (λ q. r < q) (qs ++ row ∷ [])
    more [] m = (k.0, tt)
    more (q ∷ qs) m = (m.0, more qs m.1)

none_at : (count c : ℕ) → rows_in_column (replicate count []) c ≡ []
none_at zero c = refl
none_at (suc count) zero = refl
none_at (suc count) (suc c) = none_at count c

pub none_filled : (P : PlacedSheet) (lists : List (List ℕ)) (count : ℕ) → lists ≡ replicate count [] → AreFilledTo P 0 [] lists
none_filled P lists count e = subst (λ (ls : List (List ℕ)). AreFilledTo P 0 [] ls) (sym e) (record {
  below = λ c r i. absurd (nothing c r i);
  rising = λ c. subst (λ (rs : List ℕ). IsUp rs) (sym (none_at count c)) tt;
  others = λ r c h l. absurd (omega arith);
  here = λ c i. absurd i;
})
  where
    nothing : (c r : ℕ) → IsIn r (rows_in_column (replicate count []) c) → ⊥
    nothing c r i = subst (λ (rs : List ℕ). IsIn r rs) (none_at count c) i

module _ (P : PlacedSheet) (row : ℕ) (cols : List ℕ) (lists : List (List ℕ)) (f : AreFilledTo P row cols lists) where
  -- one cell more in the row
  module _ (col : ℕ) (fresh : IsIn col cols → ⊥) (inside : col < length lists) (new : List ℕ) (is : new ≡ rows_in_column lists col ++ row ∷ []) where
    at_same : (c : ℕ) → c ≡ col → rows_in_column (slice_set lists col new) c ≡ rows_in_column lists col ++ row ∷ []
    at_same c e = ap (rows_in_column (slice_set lists col new)) e ∙ (get_or-set_same lists col new [] inside ∙ is)

    at_other : (c : ℕ) → c ≢ col → rows_in_column (slice_set lists col new) c ≡ rows_in_column lists c
    at_other c n = get_or-set_other lists col c new [] n

    old_below : AllByRecursion (λ r. r < row) (rows_in_column lists col)
    old_below = all_of row (rows_in_column lists col) (λ r i. by_place r (f.below col r i))
      where
        by_place : (r : ℕ) → ((r < row) ⊎ ((r ≡ row) × IsIn col cols)) → r < row
        by_place r (inl h) = h
        by_place r (inr h) = absurd (fresh h.1)

    pub one_more : AreFilledTo P row (cols ++ col ∷ []) (slice_set lists col new)
    one_more = record {
      below = λ c r i. below c r i (same_or_not c col);
      rising = λ c. rising c (same_or_not c col);
      others = λ r c h l. others r c (let e = length-set lists col new in omega (arith, h, e)) l (same_or_not c col);
      here = λ c i. here c (same_or_not c col) (in_push c col cols i);
    }
      where
        kept : (c : ℕ) (r : ℕ) → ((r < row) ⊎ ((r ≡ row) × IsIn c cols)) → (r < row) ⊎ ((r ≡ row) × IsIn c (cols ++ col ∷ []))
        kept c r (inl h) = inl h
        kept c r (inr h) = inr (h.0, push_in c col cols (inl h.1))

        below : (c r : ℕ) → IsIn r (rows_in_column (slice_set lists col new) c) → ((c ≡ col) ⊎ (c ≢ col)) → (r < row) ⊎ ((r ≡ row) × IsIn c (cols ++ col ∷ []))
        below c r i (inr n) = kept c r (f.below c r (subst (λ (rs : List ℕ). IsIn r rs) (at_other c n) i))
        below c r i (inl e) = by_part (in_push r row (rows_in_column lists col) (subst (λ (rs : List ℕ). IsIn r rs) (at_same c e) i))
          where
            by_part : (IsIn r (rows_in_column lists col) ⊎ (row ≡ r)) → (r < row) ⊎ ((r ≡ row) × IsIn c (cols ++ col ∷ []))
            by_part (inl j) = subst (λ k. (r < row) ⊎ ((r ≡ row) × IsIn k (cols ++ col ∷ []))) (sym e) (kept col r (f.below col r j))
            by_part (inr p) = inr (sym p, push_in c col cols (inr (sym e)))

        rising : (c : ℕ) → ((c ≡ col) ⊎ (c ≢ col)) → IsUp (rows_in_column (slice_set lists col new) c)
        rising c (inl e) = subst (λ (rs : List ℕ). IsUp rs) (sym (at_same c e)) (up_push (rows_in_column lists col) row (f.rising col) old_below)
        rising c (inr n) = subst (λ (rs : List ℕ). IsUp rs) (sym (at_other c n)) (f.rising c)

        others : (r c : ℕ) → c < length lists → r < row → ((c ≡ col) ⊎ (c ≢ col)) → IsIn r (rows_in_column (slice_set lists col new) c) ⊎ (content_seen P r c ≡ content.Empty)
        others r c h l (inr n) = subst (λ (rs : List ℕ). IsIn r rs ⊎ (content_seen P r c ≡ content.Empty)) (sym (at_other c n)) (f.others r c h l)
        others r c h l (inl e) = by_part (f.others r c h l)
          where
            by_part : (IsIn r (rows_in_column lists c) ⊎ (content_seen P r c ≡ content.Empty)) → IsIn r (rows_in_column (slice_set lists col new) c) ⊎ (content_seen P r c ≡ content.Empty)
            by_part (inl i) = inl (subst (λ (rs : List ℕ). IsIn r rs) (sym (at_same c e)) (push_in r row (rows_in_column lists col) (inl (subst (λ k. IsIn r (rows_in_column lists k)) e i))))
            by_part (inr q) = inr q

        here : (c : ℕ) → ((c ≡ col) ⊎ (c ≢ col)) → (IsIn c cols ⊎ (col ≡ c)) → IsIn row (rows_in_column (slice_set lists col new) c)
        here c (inl e) i = subst (λ (rs : List ℕ). IsIn row rs) (sym (at_same c e)) (push_in row row (rows_in_column lists col) (inr refl))
        here c (inr n) (inl i) = subst (λ (rs : List ℕ). IsIn row rs) (sym (at_other c n)) (f.here c i)
        here c (inr n) (inr p) = absurd (n (sym p))

  -- the row is done
  pub row_gathered : (end : ℕ) → HoldsFilled P row end cols → length lists ≡ end → AreFilledTo P (row + 1) [] lists
  row_gathered end h len = record {
    below = λ c r i. below c r (f.below c r i);
    rising = f.rising;
    others = λ r c l m. others r c l (less_or_not r row) m;
    here = λ c i. absurd i;
  }
    where
      below : (c r : ℕ) → ((r < row) ⊎ ((r ≡ row) × IsIn c cols)) → (r < row + 1) ⊎ ((r ≡ row + 1) × IsIn c [])
      below c r (inl k) = inl (omega arith)
      below c r (inr k) = inl (let e = k.0 in omega (arith, e))

      others : (r c : ℕ) → c < length lists → ((r < row) ⊎ (row ≤ r)) → r < row + 1 → IsIn r (rows_in_column lists c) ⊎ (content_seen P r c ≡ content.Empty)
      others r c l (inl k) m = f.others r c l k
      others r c l (inr k) m = subst (λ q. IsIn q (rows_in_column lists c) ⊎ (content_seen P q c ≡ content.Empty)) (let e : row ≡ r = omega arith in e) (by_part (h.others c (omega arith)))
        where
          by_part : (IsIn c cols ⊎ (content_seen P row c ≡ content.Empty)) → IsIn row (rows_in_column lists c) ⊎ (content_seen P row c ≡ content.Empty)
          by_part (inl i) = inl (f.here c i)
          by_part (inr e) = inr e

-- the rows of one column
pub rows_held : (P : PlacedSheet) (rows col : ℕ) (lists : List (List ℕ)) → AreFilledTo P rows [] lists → col < length lists → HoldsRows P col rows (rows_in_column lists col)
rows_held P rows col lists f inside = record {
  below = λ r i. by_place r (f.below col r i);
  rising = f.rising col;
  others = λ r h. f.others r col inside h;
}
  where
    by_place : (r : ℕ) → ((r < rows) ⊎ ((r ≡ rows) × IsIn col [])) → r < rows
    by_place r (inl h) = h
    by_place r (inr h) = absurd h.1
