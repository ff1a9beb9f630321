-- What a formula cell mentions in a graph, row by row and column by column, are cells of the graph.
use Rattle.std.proofs.Common.{◌≡◌, ℕ, zero, suc, ◌+◌, ◌<◌, ◌≤◌, List, [], ◌∷◌, ◌++◌, length, refl, ap, ◌∙◌, subst, arith, inl, inr, Some, None, Option}
use Rattle.std.specs.Prelude.{◌⊎◌, ◌-◌, slice_get, flat_map}
use Rattle.std.specs.List.{cons_option, AllByRecursion}
use Rattle.cell_walk.specs.Walks.{IsIn, MentionsWithin}
use Rattle.sheet_ops.specs.Placed.{PlacedSheet}
use Rattle.sheet_graph.specs.declared.areas.Area.{Area}
use Rattle.sheet_graph.specs.declared.columns.FormulaCell.{FormulaCell}
use Rattle.sheet_graph.specs.declared.graph.Node.{Node}
use Rattle.sheet_graph.specs.Areas.{in_row, in_rows, in_area}
use Rattle.sheet_graph.specs.Columns.{IsRising, column_at, number_in, in_column, in_columns, listed_in}
use Rattle.sheet_graph.specs.Cursor.{less_or_not}
use Rattle.sheet_graph.specs.Graphs.{areas_of, mentions_in, mentions_listed, HaveSameMembers, IsGraph}
use Rattle.sheet_graph.proofs.Seats.{between_there, between_back, rising_at}

join_cases : (d : ℕ) (xs ys : List ℕ) → IsIn d (xs ++ ys) → IsIn d xs ⊎ IsIn d ys
join_cases d [] ys h = inr h
join_cases d (x ∷ xs) ys (inl e) = inl (inl e)
join_cases d (x ∷ xs) ys (inr h) = more (join_cases d xs ys h)
  where
    more : (IsIn d xs ⊎ IsIn d ys) → IsIn d (x ∷ xs) ⊎ IsIn d ys
    more (inl i) = inl (inr i)
    more (inr i) = inr i

in_join : (d : ℕ) (xs ys : List ℕ) → (IsIn d xs ⊎ IsIn d ys) → IsIn d (xs ++ ys)
in_join d [] ys (inl h) = absurd h
in_join d [] ys (inr h) = h
in_join d (x ∷ xs) ys (inl (inl e)) = inl e
in_join d (x ∷ xs) ys (inl (inr h)) = inr (in_join d xs ys (inl h))
in_join d (x ∷ xs) ys (inr h) = inr (in_join d xs ys (inr h))

pub get_below : {A : Type 0} (xs : List A) (n : ℕ) (x : A) → slice_get xs n ≡ Some x → n < length xs
get_below [] n x h = absurd (cc)
get_below (y ∷ xs) zero x h = omega arith
get_below (y ∷ xs) (suc n) x h = let k = get_below xs n x h in omega (arith, k)

-- a number stands in so many rows and columns
record StandsIn (N : ℕ → ℕ → Option ℕ) (d top height left width : ℕ) : Type 0 where
  row : ℕ
  col : ℕ
  from_top : top ≤ row
  to_bottom : row < top + height
  from_left : left ≤ col
  to_right : col < left + width
  number : N row col ≡ Some d

module _ (N : ℕ → ℕ → Option ℕ) (d : ℕ) where
  row_has : (r c k : ℕ) → IsIn d (in_row N r c k) → (x : ℕ) × (c ≤ x) × (x < c + k) × (N r x ≡ Some d)
  row_has r c zero h = absurd h
  row_has r c (suc k) h = by_number (N r c) refl h (λ i. row_has r (suc c) k i)
    where
      further : (x : ℕ) × (suc c ≤ x) × (x < suc c + k) × (N r x ≡ Some d) → (x : ℕ) × (c ≤ x) × (x < c + suc k) × (N r x ≡ Some d)
      further x = let a = x.1 in let b = x.2 in (x.0, omega (arith, a), omega (arith, b), x.3)

      by_number : (o : Option ℕ) → N r c ≡ o → IsIn d (cons_option o (in_row N r (suc c) k)) → (IsIn d (in_row N r (suc c) k) → (x : ℕ) × (suc c ≤ x) × (x < suc c + k) × (N r x ≡ Some d)) → (x : ℕ) × (c ≤ x) × (x < c + suc k) × (N r x ≡ Some d)
      by_number None e i f = further (f i)
      by_number (Some n) e (inl p) f = (c, omega arith, omega arith, e ∙ ap Some p)
      by_number (Some n) e (inr i) f = further (f i)

  has_row : (r c k x : ℕ) → c ≤ x → x < c + k → N r x ≡ Some d → IsIn d (in_row N r c k)
  has_row r c zero x a b e = absurd (omega arith)
  has_row r c (suc k) x a b e = by_place (less_or_not c x) (λ l. has_row r (suc c) k x l (omega arith) e)
    where
      here : (o : Option ℕ) → o ≡ Some d → IsIn d (cons_option o (in_row N r (suc c) k))
      here None p = absurd (cc)
      here (Some n) p = inl (let q : n ≡ d = cc in q)

      past : (o : Option ℕ) → IsIn d (in_row N r (suc c) k) → IsIn d (cons_option o (in_row N r (suc c) k))
      past None i = i
      past (Some n) i = inr i

      by_place : ((c < x) ⊎ (x ≤ c)) → (suc c ≤ x → IsIn d (in_row N r (suc c) k)) → IsIn d (in_row N r c (suc k))
      by_place (inl l) f = past (N r c) (f (omega arith))
      by_place (inr l) f = here (N r c) (let q : c ≡ x = omega arith in ap (N r) q ∙ e)

  rows_have : (left w r k : ℕ) → IsIn d (in_rows N left w r k) → StandsIn N d r k left w
  rows_have left w r zero h = absurd h
  rows_have left w r (suc k) h = by_place (join_cases d (in_row N r left w) (in_rows N left w (suc r) k) h) (λ i. rows_have left w (suc r) k i)
    where
      by_place : (IsIn d (in_row N r left w) ⊎ IsIn d (in_rows N left w (suc r) k)) → (IsIn d (in_rows N left w (suc r) k) → StandsIn N d (suc r) k left w) → StandsIn N d r (suc k) left w
      by_place (inl i) f =
          let x = row_has r left w i in
          record { row = r; col = x.0; from_top = omega arith; to_bottom = omega arith; from_left = x.1; to_right = x.2; number = x.3 }
      by_place (inr i) f =
          let x = f i in
          let a = x.from_top in
          let b = x.to_bottom in
          record { row = x.row; col = x.col; from_top = omega (arith, a); to_bottom = omega (arith, b); from_left = x.from_left; to_right = x.to_right; number = x.number }

  have_rows : (left w r k row col : ℕ) → r ≤ row → row < r + k → left ≤ col → col < left + w → N row col ≡ Some d → IsIn d (in_rows N left w r k)
  have_rows left w r zero row col a b x y e = absurd (omega arith)
  have_rows left w r (suc k) row col a b x y e = in_join d (in_row N r left w) (in_rows N left w (suc r) k) (by_place (less_or_not r row) (λ l. have_rows left w (suc r) k row col l (omega arith) x y e))
    where
      by_place : ((r < row) ⊎ (row ≤ r)) → (suc r ≤ row → IsIn d (in_rows N left w (suc r) k)) → IsIn d (in_row N r left w) ⊎ IsIn d (in_rows N left w (suc r) k)
      by_place (inl l) f = inr (f (omega arith))
      by_place (inr l) f = inl (let q : row ≡ r = omega arith in has_row r left w col x y (subst (λ j. N j col ≡ Some d) q e))

  areas_have : (areas : List Area) → IsIn d (flat_map (in_area N) areas) → (r : ℕ) × (c : ℕ) × (N r c ≡ Some d)
  areas_have [] h = absurd h
  areas_have (a ∷ areas) h = by_place (join_cases d (in_area N a) (flat_map (in_area N) areas) h) (λ i. areas_have areas i)
    where
      by_place : (IsIn d (in_area N a) ⊎ IsIn d (flat_map (in_area N) areas)) → (IsIn d (flat_map (in_area N) areas) → (r : ℕ) × (c : ℕ) × (N r c ≡ Some d)) → (r : ℕ) × (c : ℕ) × (N r c ≡ Some d)
      by_place (inl i) f = let x = rows_have a.left (a.right - a.left) a.top (a.bottom - a.top) i in (x.row, x.col, x.number)
      by_place (inr i) f = f i

-- ---- column by column
module _ (columns : List (List FormulaCell)) (rising : AllByRecursion IsRising columns) where
  module _ (a : Area) (d : ℕ) where
    columns_have : (c k : ℕ) → IsIn d (in_columns columns a c k) → StandsIn (number_in columns) d a.top (a.bottom - a.top) c k
    columns_have c zero h = absurd h
    columns_have c (suc k) h = by_place (join_cases d (in_column columns a c) (in_columns columns a (suc c) k) h) (λ i. columns_have (suc c) k i)
      where
        by_place : (IsIn d (in_column columns a c) ⊎ IsIn d (in_columns columns a (suc c) k)) → (IsIn d (in_columns columns a (suc c) k) → StandsIn (number_in columns) d a.top (a.bottom - a.top) (suc c) k) →
            StandsIn (number_in columns) d a.top (a.bottom - a.top) c (suc k)
        by_place (inl i) f =
            let x = between_there a.bottom d a.top (column_at columns c) (rising_at columns c rising) i in
            let p = x.1 in
            let q = x.2 in
            record { row = x.0; col = c; from_top = x.1; to_bottom = omega (arith, p, q); from_left = omega arith; to_right = omega arith; number = x.3 }
        by_place (inr i) f =
            let x = f i in
            let p = x.from_left in
            let q = x.to_right in
            record { row = x.row; col = x.col; from_top = x.from_top; to_bottom = x.to_bottom; from_left = omega (arith, p); to_right = omega (arith, q); number = x.number }

    have_columns : (c k row col : ℕ) → a.top ≤ row → row < a.bottom → c ≤ col → col < c + k → number_in columns row col ≡ Some d → IsIn d (in_columns columns a c k)
    have_columns c zero row col x y p q e = absurd (omega arith)
    have_columns c (suc k) row col x y p q e = in_join d (in_column columns a c) (in_columns columns a (suc c) k) (by_place (less_or_not c col) (λ l. have_columns (suc c) k row col x y l (omega arith) e))
      where
        by_place : ((c < col) ⊎ (col ≤ c)) → (suc c ≤ col → IsIn d (in_columns columns a (suc c) k)) → IsIn d (in_column columns a c) ⊎ IsIn d (in_columns columns a (suc c) k)
        by_place (inl l) f = inr (f (omega arith))
        by_place (inr l) f =
            inl (let same : col ≡ c = omega arith in between_back a.bottom d a.top (column_at columns c) row (rising_at columns c rising) x y (subst (λ j. number_in columns row j ≡ Some d) same e))

  area_alike : (a : Area) → HaveSameMembers (listed_in columns a) (in_area (number_in columns) a)
  area_alike a = record {
    there = λ d h. let x = columns_have a d a.left (a.right - a.left) h in
        have_rows (number_in columns) d a.left (a.right - a.left) a.top (a.bottom - a.top) x.row x.col x.from_top x.to_bottom x.from_left x.to_right x.number;
    back = λ d h. let x = rows_have (number_in columns) d a.left (a.right - a.left) a.top (a.bottom - a.top) h in
        let p = x.from_top in
        let q = x.to_bottom in
        have_columns a d a.left (a.right - a.left) x.row x.col x.from_top (omega (arith, p, q)) x.from_left x.to_right x.number;
  }

  module _ (a : Area) (areas : List Area) (one : HaveSameMembers (listed_in columns a) (in_area (number_in columns) a)) (others : HaveSameMembers (flat_map (listed_in columns) areas) (flat_map (in_area (number_in columns)) areas)) where
    joined_there : (d : ℕ) → (IsIn d (listed_in columns a) ⊎ IsIn d (flat_map (listed_in columns) areas)) → IsIn d (flat_map (in_area (number_in columns)) (a ∷ areas))
    joined_there d (inl i) = in_join d (in_area (number_in columns) a) (flat_map (in_area (number_in columns)) areas) (inl (one.there d i))
    joined_there d (inr i) = in_join d (in_area (number_in columns) a) (flat_map (in_area (number_in columns)) areas) (inr (others.there d i))

    joined_back : (d : ℕ) → (IsIn d (in_area (number_in columns) a) ⊎ IsIn d (flat_map (in_area (number_in columns)) areas)) → IsIn d (flat_map (listed_in columns) (a ∷ areas))
    joined_back d (inl i) = in_join d (listed_in columns a) (flat_map (listed_in columns) areas) (inl (one.back d i))
    joined_back d (inr i) = in_join d (listed_in columns a) (flat_map (listed_in columns) areas) (inr (others.back d i))

    joined : HaveSameMembers (flat_map (listed_in columns) (a ∷ areas)) (flat_map (in_area (number_in columns)) (a ∷ areas))
    joined = record {
      there = λ d h. joined_there d (join_cases d (listed_in columns a) (flat_map (listed_in columns) areas) h);
      back = λ d h. joined_back d (join_cases d (in_area (number_in columns) a) (flat_map (in_area (number_in columns)) areas) h);
    }

  areas_alike : (areas : List Area) → HaveSameMembers (flat_map (listed_in columns) areas) (flat_map (in_area (number_in columns)) areas)
  areas_alike [] = record { there = λ d h. h; back = λ d h. h }
  areas_alike (a ∷ areas) = joined a areas (area_alike a) (areas_alike areas)

  pub mentions_alike : (nodes : List Node) (cell : ℕ) → HaveSameMembers (mentions_listed nodes columns cell) (mentions_in nodes columns cell)
  mentions_alike nodes cell = areas_alike (areas_of nodes cell)

-- ---- of the graph
module _ (P : PlacedSheet) (nodes : List Node) (columns : List (List FormulaCell)) (g : IsGraph P nodes (number_in columns)) where
  pub mentions_within : MentionsWithin (length nodes) (mentions_in nodes columns)
  mentions_within c d h i =
      let has = areas_have (number_in columns) d (areas_of nodes c) i in
      let x = g.back has.0 has.1 d has.2 in
      get_below nodes d x.0 x.1

  pub listed_within : AllByRecursion IsRising columns → MentionsWithin (length nodes) (mentions_listed nodes columns)
  listed_within rising c d h i = mentions_within c d h ((mentions_alike columns rising nodes c).there d i)
