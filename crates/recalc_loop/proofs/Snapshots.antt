-- Values by visible indexes, from snapshot to snapshot.
use Rattle.std.proofs.Common.{◌≡◌, ℕ, zero, suc, ◌+◌, ◌<◌, ◌≤◌, Bool, true, false, List, [], ◌∷◌, ◌++◌, length, refl, ap, sym, ◌∙◌, subst, arith, inl, inr}
use Rattle.std.specs.Prelude.{◌⊎◌, ◌||◌, map, fold, max, slice_index_or, unwrap_or, Option}
use Rattle.std.specs.FinMap as finite
use Rattle.std.specs.List.{range_with_len, flat_map}
use Rattle.std.proofs.lemmas.Bool.{cases_lt, cases_eq}
use Rattle.std.proofs.lemmas.List.Elements.{All-from_recursion, All-nil, All-cons}
use Rattle.std.proofs.lemmas.List.FromFn.{fill_by_all, length-range_with_len}
use Rattle.std.proofs.lemmas.List.{get_or_past}
use Rattle.ss_base.specs.declared.types.Size.{Size}
use Rattle.sheet_value.specs.declared.batch.Change.{Change}
use Rattle.sheet_value.specs.declared.value.Value.{Value}
use Rattle.sheet_value.specs.declared.value.Value.TheVariants as value
use Rattle.sheet_value.specs.Tables.{Table, value_at, empty_table}
use Rattle.sheet_value.specs.Snapshots.{Snapshot, CellValues, cell_order, cell_in, with_change, after_batch, opening_snapshot}
use Rattle.value_snap.specs.Lists.{IsElsewhere}
use Rattle.value_snap.specs.Parts.{values_in}
use Rattle.value_snap.proofs.CellValues.{cells_kept, cells_changed}
use Rattle.full_calc.specs.Shown.{HasItsSize}
use Rattle.full_calc.proofs.Tables.{empty_value}
use Rattle.recalc_loop.specs.Changes.{is_filled, cell_changes, column_changes, changes_between, batch_between}
use Rattle.recalc_loop.specs.Standing.{IsSnapshotOf, snapshot_values}

-- ---- outside its size a table is empty
module _ (T : Table) (whole : HasItsSize T) where
  row_wide : (row : ℕ) → row < T.size.rows → length (slice_index_or T.rows row []) ≡ T.size.cols
  row_wide row h = All-from_recursion (λ (r : List Value). length r ≡ T.size.cols) T.rows whole.1 row [] (omega (arith, h, whole.0))

  below_last : (row col : ℕ) → T.size.rows ≤ row → value_at T row col ≡ value.Empty
  below_last row col h =
      ap (λ (vs : List Value). slice_index_or vs col value.Empty) (get_or_past T.rows row [] (omega (arith, h, whole.0)))
      ∙ get_or_past [] col value.Empty (omega arith)

  past_last : (row col : ℕ) → T.size.cols ≤ col → value_at T row col ≡ value.Empty
  past_last row col h = by_row (cases_lt row T.size.rows)
    where
      by_row : (row < T.size.rows) ⊎ (T.size.rows ≤ row) → value_at T row col ≡ value.Empty
      by_row (inl k) = get_or_past (slice_index_or T.rows row []) col value.Empty (omega (arith, row_wide row k, h))
      by_row (inr k) = below_last row col k

-- ---- what holds of all changes of a list
module _ (P : Change → Type 0) where
  abbrev Each : List Change → Type 0
  Each [] = Unit {0}
  Each (c ∷ cs) = P c × Each cs

  each_join : (xs ys : List Change) → Each xs → Each ys → Each (xs ++ ys)
  each_join [] ys h k = k
  each_join (x ∷ xs) ys h k = (h.0, each_join xs ys h.1 k)

  each_left : (xs ys : List Change) → Each (xs ++ ys) → Each xs
  each_left [] ys h = tt
  each_left (x ∷ xs) ys h = (h.0, each_left xs ys h.1)

  each_right : (xs ys : List Change) → Each (xs ++ ys) → Each ys
  each_right [] ys h = h
  each_right (x ∷ xs) ys h = each_right xs ys h.1

  each_of_all : (f : ℕ → List Change) → ((k : ℕ) → Each (f k)) → (ks : List ℕ) → Each (flat_map f ks)
  each_of_all f all [] = tt
  each_of_all f all (k ∷ ks) = each_join (f k) (flat_map f ks) (all k) (each_of_all f all ks)

  each_at : (f : ℕ → List Change) (a n k : ℕ) → a ≤ k → k < a + n → Each (flat_map f (range_with_len a n)) → Each (f k)
  each_at f a zero k low high all = absurd (omega arith)
  each_at f a (suc n) k low high all =
      by_place (cases_eq a k) (λ apart. each_at f (a + 1) n k (omega (arith, low, apart)) (omega (arith, high)) (each_right (f a) (flat_map f (range_with_len (a + 1) n)) all))
    where
      by_place : (a ≡ k) ⊎ (a ≡ k → ⊥) → ((a ≡ k → ⊥) → Each (f k)) → Each (f k)
      by_place (inl same) later = subst (λ j. Each (f j)) same (each_left (f a) (flat_map f (range_with_len (a + 1) n)) all)
      by_place (inr apart) later = later apart

-- the change has its cell's value in the table
abbrev IsCurrent : Table → Change → Type 0
IsCurrent T c = c.value ≡ value_at T c.row c.col

-- ---- changes that are current lead to the table, if each other cell has its value already
changed_cell : (cells : CellValues) (c : Change) → cell_in (with_change cells c) c.row c.col ≡ c.value
changed_cell cells c = cells_changed cells [] c [] (All-nil (IsElsewhere c.row c.col))

other_cell : (cells : CellValues) (row col : ℕ) (c : Change) → IsElsewhere row col c → cell_in (with_change cells c) row col ≡ cell_in cells row col
other_cell cells row col c apart = cells_kept cells row col (c ∷ []) (All-cons (IsElsewhere row col) c [] apart (All-nil (IsElsewhere row col)))

is_elsewhere : (row col : ℕ) (c : Change) → ((c.row ≡ row) × (c.col ≡ col)) ⊎ IsElsewhere row col c
is_elsewhere row col c = by_row (cases_eq c.row row) (cases_eq c.col col)
  where
    by_row : (c.row ≡ row) ⊎ (c.row ≡ row → ⊥) → (c.col ≡ col) ⊎ (c.col ≡ col → ⊥) → ((c.row ≡ row) × (c.col ≡ col)) ⊎ IsElsewhere row col c
    by_row (inl r) (inl s) = inl (r, s)
    by_row (inl r) (inr s) = inr (inr s)
    by_row (inr r) s = inr (inl r)

settled : (T : Table) (row col : ℕ) (cs : List Change) (cells : CellValues) → Each (IsCurrent T) cs → (Each (IsElsewhere row col) cs → cell_in cells row col ≡ value_at T row col) →
    cell_in (fold with_change cells cs) row col ≡ value_at T row col
settled T row col [] cells current stays = stays tt
settled T row col (c ∷ cs) cells current stays =
    settled T row col cs (with_change cells c) current.1 (λ none. by_cell (is_elsewhere row col c) (λ apart. stays (apart, none)))
  where
    by_cell : ((c.row ≡ row) × (c.col ≡ col)) ⊎ IsElsewhere row col c → (IsElsewhere row col c → cell_in cells row col ≡ value_at T row col) → cell_in (with_change cells c) row col ≡ value_at T row col
    by_cell (inl same) before =
        let here : cell_in (with_change cells c) c.row c.col ≡ value_at T c.row c.col = changed_cell cells c ∙ current.0 in
        subst (λ (k : ℕ). cell_in (with_change cells c) row k ≡ value_at T row k) same.1 (subst (λ (k : ℕ). cell_in (with_change cells c) k c.col ≡ value_at T k c.col) same.0 here)
    by_cell (inr apart) before = other_cell cells row col c apart ∙ before apart

-- ---- the changes between two tables
cell_current : (T : Table) (row col : ℕ) (old new : Value) → new ≡ value_at T row col → (t : Bool) → (is_filled old || is_filled new) ≡ t → Each (IsCurrent T) (cell_changes row col old new)
cell_current T row col old new is true e = rw e (is, tt)
cell_current T row col old new is false e = rw e tt

at_home : (row col : ℕ) → (row ≡ row → ⊥) ⊎ (col ≡ col → ⊥) → ⊥
at_home row col (inl n) = n refl
at_home row col (inr n) = n refl

both_empty : (row col : ℕ) (old new : Value) → Each (IsElsewhere row col) (cell_changes row col old new) → old ≡ new
both_empty row col value.Empty value.Empty h = refl
both_empty row col value.Empty (value.Num n) h = absurd (at_home row col h.0)
both_empty row col value.Empty (value.Text t) h = absurd (at_home row col h.0)
both_empty row col value.Empty (value.Err e) h = absurd (at_home row col h.0)
both_empty row col (value.Num n) new h = absurd (at_home row col h.0)
both_empty row col (value.Text t) new h = absurd (at_home row col h.0)
both_empty row col (value.Err e) new h = absurd (at_home row col h.0)

module _ (old new : Table) (whole_old : HasItsSize old) (whole_new : HasItsSize new) where
  all_current : Each (IsCurrent new) (changes_between old new)
  all_current =
      each_of_all (IsCurrent new) _
      (λ col. each_of_all (IsCurrent new) _ (λ row. cell_current new row col (value_at old row col) (value_at new row col) refl _ refl) (range_with_len 0 (max old.size.rows new.size.rows)))
      (range_with_len 0 (max old.size.cols new.size.cols))

  untouched : (row col : ℕ) → Each (IsElsewhere row col) (changes_between old new) → value_at old row col ≡ value_at new row col
  untouched row col none = by_place (cases_lt row (max old.size.rows new.size.rows)) (cases_lt col (max old.size.cols new.size.cols))
    where
      by_place : (row < max old.size.rows new.size.rows) ⊎ (max old.size.rows new.size.rows ≤ row) → (col < max old.size.cols new.size.cols) ⊎ (max old.size.cols new.size.cols ≤ col) → value_at old row col ≡ value_at new row col
      by_place (inr below) right = below_last old whole_old row col (omega (arith, below)) ∙ sym (below_last new whole_new row col (omega (arith, below)))
      by_place (inl h) (inr right) = past_last old whole_old row col (omega (arith, right)) ∙ sym (past_last new whole_new row col (omega (arith, right)))
      by_place (inl h) (inl k) =
          both_empty row col (value_at old row col) (value_at new row col)
          (each_at (IsElsewhere row col) (λ r. cell_changes r col (value_at old r col) (value_at new r col)) 0 (max old.size.rows new.size.rows) row (omega arith) (omega (arith, h))
          (each_at (IsElsewhere row col) (λ n. column_changes (max old.size.rows new.size.rows) n (λ r. value_at old r n) (λ r. value_at new r n)) 0 (max old.size.cols new.size.cols) col (omega arith) (omega (arith, k)) none))

  -- they lead from a snapshot of the first to one of the second
  pub snapshot_after : (upto : ℕ) (s : Snapshot) → IsSnapshotOf old s → IsSnapshotOf new (after_batch s (batch_between upto old new))
  snapshot_after upto s is = record {
    row_order = refl;
    col_order = refl;
    values = λ row col. settled new row col (changes_between old new) s.cells all_current (λ none. is.values row col ∙ untouched row col none);
  }

-- a snapshot of a table shows that table
module _ (T : Table) (whole : HasItsSize T) (s : Snapshot) (is : IsSnapshotOf T s) where
  row_shown : (row : ℕ) → row < T.size.rows → slice_index_or T.rows row [] ≡ values_in s.cells row (range_with_len 0 T.size.cols)
  row_shown row h = fill_by_all (λ col. cell_in s.cells row col) (slice_index_or T.rows row []) T.size.cols value.Empty (row_wide T whole row h) (λ col k. sym (is.values row col))

  rows_shown : map (λ row. values_in s.cells row s.col_order) s.row_order ≡ T.rows
  rows_shown =
      (λ i. map (λ row. values_in s.cells row (is.col_order i)) (is.row_order i))
      ∙ sym (fill_by_all (λ row. values_in s.cells row (range_with_len 0 T.size.cols)) T.rows T.size.rows [] whole.0 row_shown)

  pub values_shown : snapshot_values s ≡ T
  values_shown =
      let rows : length s.row_order ≡ T.size.rows = ap length is.row_order ∙ length-range_with_len 0 T.size.rows in
      let cols : length s.col_order ≡ T.size.cols = ap length is.col_order ∙ length-range_with_len 0 T.size.cols in
      λ i. record { size = record { rows = rows i; cols = cols i }; rows = rows_shown i }

-- the opening snapshot is one of the empty table
module _ (size : Size) where
  pub opening_is : IsSnapshotOf (empty_table size) (opening_snapshot size)
  opening_is = record {
    row_order = refl;
    col_order = refl;
    values = λ row col. ap (λ (o : Option Value). unwrap_or o value.Empty) (finite.get-empty cell_order (row, col)) ∙ sym (empty_value size row col);
  }
