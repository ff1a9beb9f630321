-- Constants put into their places one after another.
use Rattle.std.proofs.Common.{◌≡◌, ◌≢◌, ℕ, ◌+◌, ◌<◌, ◌≤◌, List, [], ◌∷◌, ◌++◌, length, take, refl, ap, sym, ◌∙◌, subst, arith, inl, inr, Some, None, Option}
use Rattle.std.specs.Prelude.{◌⊎◌, slice_get, slice_index_or}
use Rattle.std.proofs.lemmas.List.{take_more, take_all}
use Rattle.marked_lines.specs.Marks.{visible_places}
use Rattle.sheet_value.specs.declared.value.Value.TheVariants as value
use Rattle.sheet_value.specs.Tables.{Table, empty_table, value_at, with_value}
use Rattle.sheet_ops.specs.declared.content.Content.TheVariants as content
use Rattle.sheet_ops.specs.Placed.{PlacedSheet}
use Rattle.cell_walk.specs.Walks.{IsIn}
use Rattle.cell_walk.proofs.Turns.{same_or_not}
use Rattle.sheet_grid.specs.Cells.{visible_size}
use Rattle.sheet_graph.specs.Cursor.{less_or_not}
use Rattle.sheet_graph.specs.Graphs.{content_at, content_seen, HoldsFilled}
use Rattle.sheet_graph.proofs.Building.{get_past, in_push}
use Rattle.full_calc.specs.Shown.{HasItsSize}
use Rattle.full_calc.specs.Evaluated.{constant_of}
use Rattle.full_calc.specs.Computed.{HasConstants}
use Rattle.full_calc.proofs.Tables.{shaped_empty, empty_value, value_put, value_other}

module _ (P : PlacedSheet) where
  -- what is shown has a constant, nothing else has
  no_column : (r c : ℕ) → length (visible_places P.cols) ≤ c → value.Empty ≡ constant_of (content_seen P r c)
  no_column r c h = nothing (slice_get (visible_places P.rows) r) ∙ ap (λ (o : Option ℕ). constant_of (content_at P (slice_get (visible_places P.rows) r) o)) (sym (get_past (visible_places P.cols) c h))
    where
      nothing : (o : Option ℕ) → value.Empty ≡ constant_of (content_at P o None)
      nothing None = refl
      nothing (Some p) = refl

  no_row : (r c : ℕ) → length (visible_places P.rows) ≤ r → value.Empty ≡ constant_of (content_seen P r c)
  no_row r c h = ap (λ (o : Option ℕ). constant_of (content_at P o (slice_get (visible_places P.cols) c))) (sym (get_past (visible_places P.rows) r h))

  module _ (row : ℕ) where
    -- some cells of a row have their constants, and the others nothing
    abbrev pub HasRow : Table → List ℕ → Type 0
    HasRow T cols = (c : ℕ) → (value_at T row c ≡ constant_of (content_seen P row c)) ⊎ ((value_at T row c ≡ value.Empty) × (IsIn c cols → ⊥))

    pub none_yet : (T : Table) → ((c : ℕ) → value_at T row c ≡ value.Empty) → HasRow T []
    none_yet T h c = inr (h c, λ i. i)

    pub row_more : (T S : Table) (cols : List ℕ) (i : ℕ) → HasItsSize T → row < T.size.rows → slice_index_or cols i 0 < T.size.cols → i < length cols → HasRow T (take i cols) →
        S ≡ with_value T row (slice_index_or cols i 0) (constant_of (content_seen P row (slice_index_or cols i 0))) → HasRow S (take (i + 1) cols)
    row_more T S cols i shape h k l has e =
        subst (λ (U : Table). HasRow U (take (i + 1) cols)) (sym e) (subst (λ (cs : List ℕ). HasRow (with_value T row (slice_index_or cols i 0) (constant_of (content_seen P row (slice_index_or cols i 0)))) cs) (sym (take_more cols i 0 l)) here)
      where
        here : HasRow (with_value T row (slice_index_or cols i 0) (constant_of (content_seen P row (slice_index_or cols i 0)))) (take i cols ++ slice_index_or cols i 0 ∷ [])
        here c = by_cell (same_or_not c (slice_index_or cols i 0)) (has c)
          where
            apart : (IsIn c (take i cols) ⊎ (slice_index_or cols i 0 ≡ c)) → (c ≢ slice_index_or cols i 0) → (IsIn c (take i cols) → ⊥) → ⊥
            apart (inl j) n q = q j
            apart (inr p) n q = n (sym p)

            by_cell : ((c ≡ slice_index_or cols i 0) ⊎ (c ≢ slice_index_or cols i 0)) → ((value_at T row c ≡ constant_of (content_seen P row c)) ⊎ ((value_at T row c ≡ value.Empty) × (IsIn c (take i cols) → ⊥))) →
                (value_at (with_value T row (slice_index_or cols i 0) (constant_of (content_seen P row (slice_index_or cols i 0)))) row c ≡ constant_of (content_seen P row c))
                ⊎ ((value_at (with_value T row (slice_index_or cols i 0) (constant_of (content_seen P row (slice_index_or cols i 0)))) row c ≡ value.Empty) × (IsIn c (take i cols ++ slice_index_or cols i 0 ∷ []) → ⊥))
            by_cell (inl p) q = inl (subst (λ d. value_at (with_value T row (slice_index_or cols i 0) (constant_of (content_seen P row (slice_index_or cols i 0)))) row d ≡ constant_of (content_seen P row d)) (sym p)
                (value_put T row (slice_index_or cols i 0) (constant_of (content_seen P row (slice_index_or cols i 0))) shape h k))
            by_cell (inr n) (inl q) = inl (value_other T row (slice_index_or cols i 0) (constant_of (content_seen P row (slice_index_or cols i 0))) shape h k row c (inr n) ∙ q)
            by_cell (inr n) (inr q) = inr (value_other T row (slice_index_or cols i 0) (constant_of (content_seen P row (slice_index_or cols i 0))) shape h k row c (inr n) ∙ q.0, λ j. apart (in_push c (slice_index_or cols i 0) (take i cols) j) n q.1)

    pub row_all : (T : Table) (cols : List ℕ) (i : ℕ) → length cols ≤ i → HasRow T (take i cols) → HoldsFilled P row (length (visible_places P.cols)) cols → (c : ℕ) → value_at T row c ≡ constant_of (content_seen P row c)
    row_all T cols i past has filled c = by_cell (subst (λ (cs : List ℕ). HasRow T cs) (take_all i cols past) has c)
      where
        by_column : value_at T row c ≡ value.Empty → (IsIn c cols → ⊥) → ((c < length (visible_places P.cols)) ⊎ (length (visible_places P.cols) ≤ c)) → value_at T row c ≡ constant_of (content_seen P row c)
        by_column e absent (inr l) = e ∙ no_column row c l
        by_column e absent (inl l) = by_other (filled.others c l)
          where
            by_other : (IsIn c cols ⊎ (content_seen P row c ≡ content.Empty)) → value_at T row c ≡ constant_of (content_seen P row c)
            by_other (inl i) = absurd (absent i)
            by_other (inr q) = e ∙ ap constant_of (sym q)

        by_cell : ((value_at T row c ≡ constant_of (content_seen P row c)) ⊎ ((value_at T row c ≡ value.Empty) × (IsIn c cols → ⊥))) → value_at T row c ≡ constant_of (content_seen P row c)
        by_cell (inl e) = e
        by_cell (inr e) = by_column e.0 e.1 (less_or_not c (length (visible_places P.cols)))

  -- the rows before one have their constants, and the others nothing
  pub record HasRows (row : ℕ) (T : Table) : Type 0 where
    pub size : T.size ≡ visible_size P
    pub shape : HasItsSize T
    pub done : (r c : ℕ) → r < row → value_at T r c ≡ constant_of (content_seen P r c)
    pub left : (r c : ℕ) → row ≤ r → value_at T r c ≡ value.Empty

  pub no_rows : (T : Table) → T ≡ empty_table (visible_size P) → HasRows 0 T
  no_rows T e = subst (λ (S : Table). HasRows 0 S) (sym e) (record {
    size = refl;
    shape = shaped_empty (visible_size P);
    done = λ r c h. absurd (omega arith);
    left = λ r c h. empty_value (visible_size P) r c;
  })

  pub one_row_more : (row : ℕ) (T S : Table) → HasRows row T → S.size ≡ T.size → HasItsSize S → ((c : ℕ) → value_at S row c ≡ constant_of (content_seen P row c)) → ((r c : ℕ) → r ≢ row → value_at S r c ≡ value_at T r c) → HasRows (row + 1) S
  one_row_more row T S h size shape here others = record {
    size = size ∙ h.size;
    shape = shape;
    done = λ r c l. by_row r c l (same_or_not r row);
    left = λ r c l. others r c (λ e. omega (arith, e, l)) ∙ h.left r c (omega (arith, l));
  }
    where
      by_row : (r c : ℕ) → r < row + 1 → ((r ≡ row) ⊎ (r ≢ row)) → value_at S r c ≡ constant_of (content_seen P r c)
      by_row r c l (inl e) = subst (λ q. value_at S q c ≡ constant_of (content_seen P q c)) (sym e) (here c)
      by_row r c l (inr n) = others r c n ∙ h.done r c (by_order (less_or_not r row))
        where
          by_order : ((r < row) ⊎ (row ≤ r)) → r < row
          by_order (inl k) = k
          by_order (inr k) = absurd (n (omega (arith, k, l)))

  pub all_rows : (row : ℕ) (T : Table) → HasRows row T → length (visible_places P.rows) ≤ row → HasConstants P T
  all_rows row T h past = record {
    size = h.size;
    shape = h.shape;
    values = λ r c. by_row r c (less_or_not r row);
  }
    where
      by_row : (r c : ℕ) → ((r < row) ⊎ (row ≤ r)) → value_at T r c ≡ constant_of (content_seen P r c)
      by_row r c (inl l) = h.done r c l
      by_row r c (inr l) = h.left r c l ∙ no_row r c (omega (arith, past, l))
