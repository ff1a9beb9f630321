-- The graph of a sheet grows cell by cell.
use Rattle.std.proofs.Common.{◌≡◌, ℕ, zero, suc, ◌+◌, ◌<◌, ◌≤◌, Bool, true, false, cond, List, [], ◌∷◌, ◌++◌, length, replicate, take, refl, ap, sym, ◌∙◌, subst, arith, inl, inr, Some, None, Option}
use Rattle.std.specs.Prelude.{◌&&◌, ◌⊎◌, ◌-◌, nat_eq, slice_get, slice_set, slice_index_or}
use Rattle.std.specs.List.{AllByRecursion}
use Rattle.std.proofs.lemmas.Bool.Decides.{nat_tests}
use Rattle.marked_lines.specs.Marks.{visible_places}
use Rattle.sheet_ops.specs.Placed.{PlacedSheet}
use Rattle.sheet_ops.specs.declared.content.Content.TheVariants as content
use Rattle.cell_walk.specs.Walks.{IsIn, AreDistinct}
use Rattle.sheet_graph.specs.declared.columns.FormulaCell.{FormulaCell}
use Rattle.sheet_graph.specs.declared.graph.Node.{Node}
use Rattle.sheet_graph.specs.Columns.{number_under, column_at, number_in}
use Rattle.sheet_graph.specs.Cursor.{less_or_not}
use Rattle.sheet_graph.specs.Graphs.{number_set, is_formula_content, content_at, content_seen, IsNode, IsGraphOf, IsGraph, IsGraphTo}
use Rattle.sheet_graph.specs.Filled.{IsUp, HoldsRows}
use Rattle.sheet_graph.proofs.Seats.{under_push, all_below, all_below_none, no_columns}

-- ---- lists
module _ {A : Type 0} where
  pub get_past : (xs : List A) (n : ℕ) → length xs ≤ n → slice_get xs n ≡ None
  get_past [] n h = refl
  get_past (x ∷ xs) zero h = absurd (omega arith)
  get_past (x ∷ xs) (suc n) h = get_past xs n (omega arith)

  pub get_push : (xs : List A) (x : A) (n : ℕ) (y : A) → slice_get (xs ++ x ∷ []) n ≡ Some y → (slice_get xs n ≡ Some y) ⊎ ((n ≡ length xs) × (x ≡ y))
  get_push [] x zero y h = inr (refl, cc)
  get_push [] x (suc n) y h = absurd (cc)
  get_push (z ∷ xs) x zero y h = inl h
  get_push (z ∷ xs) x (suc n) y h = more (get_push xs x n y h)
    where
      more : ((slice_get xs n ≡ Some y) ⊎ ((n ≡ length xs) × (x ≡ y))) → (slice_get xs n ≡ Some y) ⊎ ((suc n ≡ suc (length xs)) × (x ≡ y))
      more (inl e) = inl e
      more (inr e) = inr (ap suc e.0, e.1)

  get_last : (xs : List A) (x : A) → slice_get (xs ++ x ∷ []) (length xs) ≡ Some x
  get_last [] x = refl
  get_last (z ∷ xs) x = get_last xs x

  get_old : (xs : List A) (x : A) (n : ℕ) (y : A) → slice_get xs n ≡ Some y → slice_get (xs ++ x ∷ []) n ≡ Some y
  get_old [] x n y h = absurd (cc)
  get_old (z ∷ xs) x zero y h = h
  get_old (z ∷ xs) x (suc n) y h = get_old xs x n y h

each_below : (row : ℕ) (rows : List ℕ) (r : ℕ) → AllByRecursion (λ q. q < row) rows → IsIn r rows → r < row
each_below row [] r h i = absurd i
each_below row (q ∷ rows) r h (inl e) = subst (λ k. k < row) e h.0
each_below row (q ∷ rows) r h (inr i) = each_below row rows r h.1 i

-- ---- numbers
set_at : (columns : List (List FormulaCell)) (col : ℕ) (new : List FormulaCell) → col < length columns → (c : ℕ) → column_at (slice_set columns col new) c ≡ cond (nat_eq col c) new (column_at columns c)
set_at [] col new h c = absurd (omega arith)
set_at (x ∷ columns) zero new h zero = refl
set_at (x ∷ columns) zero new h (suc c) = ap (λ b. cond b new (column_at columns c)) (let t : false ≡ nat_eq zero (suc c) = grind (arith, nat_tests) in t)
set_at (x ∷ columns) (suc col) new h zero = ap (λ b. cond b new x) (let t : false ≡ nat_eq (suc col) zero = grind (arith, nat_tests) in t)
set_at (x ∷ columns) (suc col) new h (suc c) = set_at columns col new (omega arith) c ∙ ap (λ b. cond b new (column_at columns c)) (next_test col c)
  where
    next_test : (col c : ℕ) → nat_eq col c ≡ nat_eq (suc col) (suc c)
    next_test col c = by_test (nat_eq col c) refl
      where
        by_test : (b : Bool) → nat_eq col c ≡ b → nat_eq col c ≡ nat_eq (suc col) (suc c)
        by_test true e = let t : nat_eq (suc col) (suc c) ≡ true = grind (arith, nat_tests) in e ∙ sym t
        by_test false e = let t : nat_eq (suc col) (suc c) ≡ false = grind (arith, nat_tests) in e ∙ sym t

module _ (columns : List (List FormulaCell)) (col : ℕ) (t : FormulaCell) (new : List FormulaCell) (inside : col < length columns) (below : AllByRecursion (λ s. s.row < t.row) (column_at columns col)) (is : new ≡ column_at columns col ++ t ∷ []) where
  number_set_at : (r c : ℕ) → number_in (slice_set columns col new) r c ≡ number_set (number_in columns) t.row col t.number r c
  number_set_at r c = ap (λ (seats : List FormulaCell). number_under seats r) (set_at columns col new inside c) ∙ by_test (nat_eq col c) refl
    where
      by_row : (b : Bool) → cond b (Some t.number) (number_in columns r c) ≡ cond (b && true) (Some t.number) (number_in columns r c)
      by_row true = refl
      by_row false = refl

      by_other : (b : Bool) → number_in columns r c ≡ cond (b && false) (Some t.number) (number_in columns r c)
      by_other true = refl
      by_other false = refl

      by_test : (b : Bool) → nat_eq col c ≡ b → number_under (cond b new (column_at columns c)) r ≡ cond (nat_eq t.row r && b) (Some t.number) (number_in columns r c)
      by_test true e =
          let same : col ≡ c = grind (arith, nat_tests) in
          ap (λ (seats : List FormulaCell). number_under seats r) is
          ∙ (under_push (column_at columns col) t r below
          ∙ (ap (λ k. cond (nat_eq t.row r) (Some t.number) (number_in columns r k)) same ∙ by_row (nat_eq t.row r)))
      by_test false e = by_other (nat_eq t.row r)

  pub numbers_set : number_in (slice_set columns col new) ≡ number_set (number_in columns) t.row col t.number
  numbers_set = λ i r c. number_set_at r c i

-- ---- members of lists
module _ {A : Type 0} where
  pub in_push : (x y : A) (xs : List A) → IsIn x (xs ++ y ∷ []) → IsIn x xs ⊎ (y ≡ x)
  in_push x y [] (inl p) = inr p
  in_push x y [] (inr h) = absurd h
  in_push x y (z ∷ xs) (inl p) = inl (inl p)
  in_push x y (z ∷ xs) (inr h) = more (in_push x y xs h)
    where
      more : (IsIn x xs ⊎ (y ≡ x)) → IsIn x (z ∷ xs) ⊎ (y ≡ x)
      more (inl k) = inl (inr k)
      more (inr k) = inr k

  pub push_in : (x y : A) (xs : List A) → (IsIn x xs ⊎ (y ≡ x)) → IsIn x (xs ++ y ∷ [])
  push_in x y [] (inl h) = absurd h
  push_in x y [] (inr p) = inl p
  push_in x y (z ∷ xs) (inl (inl p)) = inl p
  push_in x y (z ∷ xs) (inl (inr h)) = inr (push_in x y xs (inl h))
  push_in x y (z ∷ xs) (inr p) = inr (push_in x y xs (inr p))

  in_take : (x : A) (xs : List A) (i : ℕ) → IsIn x (take i xs) → IsIn x xs
  in_take x [] zero h = h
  in_take x [] (suc i) h = h
  in_take x (y ∷ xs) zero h = absurd h
  in_take x (y ∷ xs) (suc i) (inl p) = inl p
  in_take x (y ∷ xs) (suc i) (inr h) = inr (in_take x xs i h)

  pub at_in : (xs : List A) (i : ℕ) (d : A) → i < length xs → IsIn (slice_index_or xs i d) xs
  at_in [] i d l = absurd (omega arith)
  at_in (x ∷ xs) zero d l = inl refl
  at_in (x ∷ xs) (suc i) d l = inr (at_in xs i d (omega arith))

  -- what comes once isn't among those before it
  pub not_before : (xs : List A) (i : ℕ) (d : A) → AreDistinct xs → i < length xs → IsIn (slice_index_or xs i d) (take i xs) → ⊥
  not_before [] i d h l k = absurd (omega arith)
  not_before (x ∷ xs) zero d h l k = k
  not_before (x ∷ xs) (suc i) d h l (inl p) = h.0 (subst (λ (z : A). IsIn z xs) (sym p) (at_in xs i d (omega arith)))
  not_before (x ∷ xs) (suc i) d h l (inr k) = not_before xs i d h.1 (omega arith) k

-- ---- the graph of some cells
no_nodes : (P : PlacedSheet) (N : ℕ → ℕ → Option ℕ) → ((r c : ℕ) → N r c ≡ None) → IsGraphTo P 0 [] [] N
no_nodes P N free = record {
  node = λ n x h. absurd (let e : None ≡ Some x = h in cc);
  back = λ r c n h. absurd (let e : None ≡ Some n = sym (free r c) ∙ h in cc);
  none = λ r c h e. absurd (nothing r c h);
  only = λ r c n h. absurd (let e : None ≡ Some n = sym (free r c) ∙ h in cc);
}
  where
    nothing : (r c : ℕ) → ((c < 0) ⊎ ((c ≡ 0) × IsIn r [])) → ⊥
    nothing r c (inl h) = omega arith
    nothing r c (inr h) = h.1

pub begun : (P : PlacedSheet) (nodes : List Node) (columns : List (List FormulaCell)) (count : ℕ) → nodes ≡ [] → columns ≡ replicate count [] → IsGraphTo P 0 [] nodes (number_in columns)
begun P nodes columns count e f =
    subst (λ (ns : List Node). IsGraphTo P 0 [] ns (number_in columns)) (sym e)
    (subst (λ (cs : List (List FormulaCell)). IsGraphTo P 0 [] [] (number_in cs)) (sym f)
    (no_nodes P (number_in (replicate count [])) (λ r c. ap (λ (seats : List FormulaCell). number_under seats r) (no_columns count c))))

-- the cells of the last column stand above the next one, and the columns behind it have none
pub all_above : (P : PlacedSheet) (row col : ℕ) (before : List ℕ) (nodes : List Node) (columns : List (List FormulaCell)) → AllByRecursion (λ r. r < row) before → IsGraphTo P col before nodes (number_in columns) → AllByRecursion (λ s. s.row < row) (column_at columns col)
all_above P row col before nodes columns up g = all_below (column_at columns col) row (λ r m e. by_place r (g.only r col m e))
  where
    by_place : (r : ℕ) → ((col < col) ⊎ ((col ≡ col) × IsIn r before)) → r < row
    by_place r (inl h) = absurd (omega arith)
    by_place r (inr h) = each_below row before r up h.1

pub none_yet : (P : PlacedSheet) (col : ℕ) (nodes : List Node) (columns : List (List FormulaCell)) → IsGraphTo P col [] nodes (number_in columns) → column_at columns col ≡ []
none_yet P col nodes columns g = all_below_none (column_at columns col) (all_above P 0 col [] nodes columns tt g)

abbrev NoFormula : PlacedSheet → ℕ → ℕ → Type 0
NoFormula P r c = is_formula_content (content_seen P r c) ≡ false

-- there is no formula outside
no_column : (P : PlacedSheet) (r c : ℕ) → slice_get (visible_places P.cols) c ≡ None → NoFormula P r c
no_column P r c e = ap (λ (o : Option ℕ). is_formula_content (content_at P (slice_get (visible_places P.rows) r) o)) e ∙ nothing (slice_get (visible_places P.rows) r)
  where
    nothing : (o : Option ℕ) → is_formula_content (content_at P o None) ≡ false
    nothing None = refl
    nothing (Some p) = refl

no_row : (P : PlacedSheet) (r c : ℕ) → slice_get (visible_places P.rows) r ≡ None → NoFormula P r c
no_row P r c e = ap (λ (o : Option ℕ). is_formula_content (content_at P o (slice_get (visible_places P.cols) c))) e

module _ (P : PlacedSheet) (C : ℕ → ℕ → Type 0) (nodes : List Node) (N : ℕ → ℕ → Option ℕ) (g : IsGraphOf P C nodes N) where
  -- the graph of more cells, which aren't formula cells
  widened : (D : ℕ → ℕ → Type 0) → ((r c : ℕ) → C r c → D r c) → ((r c : ℕ) → D r c → C r c ⊎ NoFormula P r c) → IsGraphOf P D nodes N
  widened D more others = record {
    node = g.node;
    back = g.back;
    none = λ r c d e. by_cell r c e (others r c d);
    only = λ r c n h. more r c (g.only r c n h);
  }
    where
      by_cell : (r c : ℕ) → N r c ≡ None → (C r c ⊎ NoFormula P r c) → NoFormula P r c
      by_cell r c e (inl k) = g.none r c k e
      by_cell r c e (inr k) = k

  -- one node more
  module _ (row col : ℕ) (fresh : C row col → ⊥) (x : Node) (x_row : x.row ≡ row) (x_col : x.col ≡ col) (is : IsNode P x) where
    free : N row col ≡ None
    free = by_number (N row col) refl
      where
        by_number : (o : Option ℕ) → N row col ≡ o → N row col ≡ None
        by_number None e = e
        by_number (Some n) e = absurd (fresh (g.only row col n e))

    abbrev M : ℕ → ℕ → Option ℕ
    M = number_set N row col (length nodes)

    here : (r c : ℕ) → r ≡ row → c ≡ col → M r c ≡ Some (length nodes)
    here r c e f = ap (λ b. cond b (Some (length nodes)) (N r c)) (let t : nat_eq row r && nat_eq col c ≡ true = grind (arith, nat_tests) in t)

    test_is : (r c : ℕ) → nat_eq row r && nat_eq col c ≡ true → (r ≡ row) × (c ≡ col)
    test_is r c h = (grind (arith, nat_tests), grind (arith, nat_tests))

    there : (r c : ℕ) → nat_eq row r && nat_eq col c ≡ false → M r c ≡ N r c
    there r c h = ap (λ b. cond b (Some (length nodes)) (N r c)) h

    -- where the old graph has a number, it stays
    stays : (r c n : ℕ) → N r c ≡ Some n → M r c ≡ Some n
    stays r c n h = by_test (nat_eq row r && nat_eq col c) refl
      where
        by_test : (b : Bool) → nat_eq row r && nat_eq col c ≡ b → M r c ≡ Some n
        by_test false e = there r c e ∙ h
        by_test true e = absurd (let s = test_is r c e in let q : N row col ≡ Some n = (λ i. N (sym s.0 i) (sym s.1 i)) ∙ h in let f = free in cc)

    from_none : (r c : ℕ) → M r c ≡ None → (N r c ≡ None) × ((r ≡ row) × (c ≡ col) → ⊥)
    from_none r c h = by_test (nat_eq row r && nat_eq col c) refl
      where
        by_test : (b : Bool) → nat_eq row r && nat_eq col c ≡ b → (N r c ≡ None) × ((r ≡ row) × (c ≡ col) → ⊥)
        by_test false e = (sym (there r c e) ∙ h, λ s. let q = here r c s.0 s.1 in cc)
        by_test true e = absurd (let s = test_is r c e in let q = here r c s.0 s.1 in cc)

    extended : IsGraphOf P (λ r c. C r c ⊎ ((r ≡ row) × (c ≡ col))) (nodes ++ x ∷ []) M
    extended = record {
      node = λ n y h. by_place n y (get_push nodes x n y h);
      back = λ r c n h. by_test r c n h (nat_eq row r && nat_eq col c) refl;
      none = λ r c h e. before r c h (from_none r c e);
      only = λ r c n h. cell r c n h (nat_eq row r && nat_eq col c) refl;
    }
      where
        by_place : (n : ℕ) (y : Node) → ((slice_get nodes n ≡ Some y) ⊎ ((n ≡ length nodes) × (x ≡ y))) → (M y.row y.col ≡ Some n) × IsNode P y
        by_place n y (inl h) = let k = g.node n y h in (stays y.row y.col n k.0, k.1)
        by_place n y (inr h) = subst (λ (z : Node). (M z.row z.col ≡ Some n) × IsNode P z) h.1 (here x.row x.col x_row x_col ∙ ap Some (sym h.0), is)

        by_test : (r c n : ℕ) → M r c ≡ Some n → (b : Bool) → nat_eq row r && nat_eq col c ≡ b → (y : Node) × (slice_get (nodes ++ x ∷ []) n ≡ Some y) × (y.row ≡ r) × (y.col ≡ c)
        by_test r c n h false e = let k = g.back r c n (sym (there r c e) ∙ h) in (k.0, get_old nodes x n k.0 k.1, k.2, k.3)
        by_test r c n h true e =
            let s = test_is r c e in
            let q : length nodes ≡ n = let p = here r c s.0 s.1 in cc in
            (x, subst (λ j. slice_get (nodes ++ x ∷ []) j ≡ Some x) q (get_last nodes x), x_row ∙ sym s.0, x_col ∙ sym s.1)

        before : (r c : ℕ) → (C r c ⊎ ((r ≡ row) × (c ≡ col))) → (N r c ≡ None) × ((r ≡ row) × (c ≡ col) → ⊥) → NoFormula P r c
        before r c (inl h) e = g.none r c h e.0
        before r c (inr h) e = absurd (e.1 h)

        cell : (r c n : ℕ) → M r c ≡ Some n → (b : Bool) → nat_eq row r && nat_eq col c ≡ b → C r c ⊎ ((r ≡ row) × (c ≡ col))
        cell r c n h false e = inl (g.only r c n (sym (there r c e) ∙ h))
        cell r c n h true e = inr (test_is r c e)

-- ---- column by column
module _ (P : PlacedSheet) (col : ℕ) (nodes : List Node) (N : ℕ → ℕ → Option ℕ) where
  abbrev Upto : List ℕ → ℕ → ℕ → Type 0
  Upto rows r c = (c < col) ⊎ ((c ≡ col) × IsIn r rows)

  module _ (before : List ℕ) (row : ℕ) (g : IsGraphTo P col before nodes N) where
    more : (r c : ℕ) → Upto before r c → Upto (before ++ row ∷ []) r c
    more r c (inl h) = inl h
    more r c (inr h) = inr (h.0, push_in r row before (inl h.1))

    -- the cell isn't a formula
    pub passed : NoFormula P row col → IsGraphTo P col (before ++ row ∷ []) nodes N
    passed k = widened P (Upto before) nodes N g (Upto (before ++ row ∷ [])) more others
      where
        others : (r c : ℕ) → Upto (before ++ row ∷ []) r c → Upto before r c ⊎ NoFormula P r c
        others r c (inl h) = inl (inl h)
        others r c (inr h) = by_row (in_push r row before h.1)
          where
            by_row : (IsIn r before ⊎ (row ≡ r)) → Upto before r c ⊎ NoFormula P r c
            by_row (inl i) = inl (inr (h.0, i))
            by_row (inr p) = inr (subst (λ b. NoFormula P r b) (sym h.0) (subst (λ a. NoFormula P a col) p k))

    -- it is one
    pub extended_as : (IsIn row before → ⊥) → (x : Node) → x.row ≡ row → x.col ≡ col → IsNode P x → (after : List Node) (L : ℕ → ℕ → Option ℕ) → after ≡ nodes ++ x ∷ [] → L ≡ number_set N x.row x.col (length nodes) →
        IsGraphTo P col (before ++ row ∷ []) after L
    extended_as n x x_row x_col is after L e f =
        subst (λ (ns : List Node). IsGraphTo P col (before ++ row ∷ []) ns L) (sym e)
        (subst (λ (K : ℕ → ℕ → Option ℕ). IsGraphTo P col (before ++ row ∷ []) (nodes ++ x ∷ []) K) (sym (f ∙ (λ i. number_set N (x_row i) (x_col i) (length nodes))))
        (widened P (λ r c. Upto before r c ⊎ ((r ≡ row) × (c ≡ col))) (nodes ++ x ∷ []) (number_set N row col (length nodes))
        (extended P (Upto before) nodes N g row col fresh x x_row x_col is) (Upto (before ++ row ∷ [])) less others))
      where
        fresh : Upto before row col → ⊥
        fresh (inl h) = omega arith
        fresh (inr h) = n h.1

        less : (r c : ℕ) → (Upto before r c ⊎ ((r ≡ row) × (c ≡ col))) → Upto (before ++ row ∷ []) r c
        less r c (inl h) = more r c h
        less r c (inr h) = inr (h.1, push_in r row before (inr (sym h.0)))

        others : (r c : ℕ) → Upto (before ++ row ∷ []) r c → (Upto before r c ⊎ ((r ≡ row) × (c ≡ col))) ⊎ NoFormula P r c
        others r c (inl h) = inl (inl (inl h))
        others r c (inr h) = inl (by_row (in_push r row before h.1))
          where
            by_row : (IsIn r before ⊎ (row ≡ r)) → Upto before r c ⊎ ((r ≡ row) × (c ≡ col))
            by_row (inl i) = inl (inr (h.0, i))
            by_row (inr p) = inr (sym p, h.0)

  -- the column is done
  pub col_done : (rows : List ℕ) → IsGraphTo P col rows nodes N → HoldsRows P col (length (visible_places P.rows)) rows → IsGraphTo P (col + 1) [] nodes N
  col_done rows g h = widened P (Upto rows) nodes N g (λ r c. (c < col + 1) ⊎ ((c ≡ col + 1) × IsIn r [])) below others
    where
      below : (r c : ℕ) → Upto rows r c → (c < col + 1) ⊎ ((c ≡ col + 1) × IsIn r [])
      below r c (inl k) = inl (omega arith)
      below r c (inr k) = inl (let e = k.0 in omega (arith, e))

      others : (r c : ℕ) → ((c < col + 1) ⊎ ((c ≡ col + 1) × IsIn r [])) → Upto rows r c ⊎ NoFormula P r c
      others r c (inr k) = absurd k.1
      others r c (inl k) = by_col (less_or_not c col) (less_or_not r (length (visible_places P.rows)))
        where
          by_col : ((c < col) ⊎ (col ≤ c)) → ((r < length (visible_places P.rows)) ⊎ (length (visible_places P.rows) ≤ r)) → Upto rows r c ⊎ NoFormula P r c
          by_col (inl l) m = inl (inl l)
          by_col (inr l) (inr m) = inr (no_row P r c (get_past (visible_places P.rows) r m))
          by_col (inr l) (inl m) = by_row (h.others r m)
            where
              same : c ≡ col
              same = omega arith

              by_row : (IsIn r rows ⊎ (content_seen P r col ≡ content.Empty)) → Upto rows r c ⊎ NoFormula P r c
              by_row (inl i) = inl (inr (same, i))
              by_row (inr e) = inr (subst (λ a. NoFormula P r a) (sym same) (ap is_formula_content e))

  -- all columns are done
  pub all_done : IsGraphTo P col [] nodes N → length (visible_places P.cols) ≤ col → IsGraph P nodes N
  all_done g l = widened P (Upto []) nodes N g (λ r c. Unit {0}) (λ r c h. tt) others
    where
      others : (r c : ℕ) → Unit {0} → Upto [] r c ⊎ NoFormula P r c
      others r c h = by_col (less_or_not c col)
        where
          by_col : ((c < col) ⊎ (col ≤ c)) → Upto [] r c ⊎ NoFormula P r c
          by_col (inl k) = inl (inl k)
          by_col (inr k) = inr (no_column P r c (get_past (visible_places P.cols) c (omega arith)))

-- the rows before one in a list that rises are above it
pub up_before : (rows : List ℕ) (i : ℕ) → IsUp rows → i < length rows → AllByRecursion (λ r. r < slice_index_or rows i 0) (take i rows)
up_before [] i h l = absurd (omega arith)
up_before (r ∷ rows) zero h l = tt
up_before (r ∷ rows) (suc i) h l = (each_above rows i h.0 (omega arith), up_before rows i h.1 (omega arith))
  where
    each_above : (qs : List ℕ) (i : ℕ) → AllByRecursion (λ q. r < q) qs → i < length qs → r < slice_index_or qs i 0
    each_above [] i k m = absurd (omega arith)
    each_above (q ∷ qs) zero k m = k.0
    each_above (q ∷ qs) (suc i) k m = each_above qs i k.1 (omega arith)

pub not_among : (row : ℕ) (rows : List ℕ) → AllByRecursion (λ q. q < row) rows → IsIn row rows → ⊥
not_among row rows h i = let l = each_below row rows row h i in omega (arith, l)

up_within : (rows : List ℕ) (low end : ℕ) → IsUp rows → AllByRecursion (λ r. low ≤ r) rows → ((r : ℕ) → IsIn r rows → r < end) → length rows ≤ end - low
up_within [] low end h k l = omega arith
up_within (r ∷ rows) low end h k l =
    let a = up_within rows (suc r) end h.1 (next rows h.0) (λ q i. l q (inr i)) in
    let b = l r (inl refl) in
    let c = k.0 in
    omega (arith, a, b, c)
  where
    next : (qs : List ℕ) → AllByRecursion (λ q. r < q) qs → AllByRecursion (λ q. suc r ≤ q) qs
    next [] m = tt
    next (q ∷ qs) m = ((let n = m.0 in omega (arith, n)), next qs m.1)

pub up_few : (rows : List ℕ) (end : ℕ) → IsUp rows → ((r : ℕ) → IsIn r rows → r < end) → length rows ≤ end
up_few rows end h l = let few = up_within rows 0 end h (lows rows) l in omega (arith, few)
  where
    lows : (qs : List ℕ) → AllByRecursion (λ q. 0 ≤ q) qs
    lows [] = tt
    lows (q ∷ qs) = (omega arith, lows qs)
