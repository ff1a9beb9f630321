-- When sheets by positions are equal.
use Rattle.std.proofs.Common.{◌≡◌, ◌≢◌, ℕ, zero, suc, ◌+◌, ◌<◌, ◌≤◌, Bool, true, false, List, [], ◌∷◌, length, get_or, refl, ap, sym, ◌∙◌, subst, arith, Ok, Err, inl, inr}
use Rattle.std.specs.Prelude.{map, filter, not, ◌&&◌, nat_eq, slice_get, slice_index, Contains, ◌↔◌, ◌⊎◌, Result, IfOk}
use Rattle.std.specs.Cmp.Lexicographic.{pointwise, same_text, other_text}
use Rattle.std.proofs.lemmas.List.{ext_get_or, get_or_default, length-map}
use Rattle.ss_base.specs.declared.types.Memory.{Memory}
use Rattle.sheet_ops.specs.declared.content.Content.{Content}
use Rattle.sheet_ops.specs.declared.content.Content.TheVariants as content
use Rattle.sheet_ops.specs.Lines.{AxisLine, has_number}
use Rattle.sheet_ops.specs.Transforms.{numbers_from}
use Rattle.sheet_ops.proofs.Ids.{true_or_false}
use Rattle.sheet_ops.proofs.Members.{has_contains, contains_has, has_filter, filter_same}
use Rattle.sheet_ops.specs.Identity.{IdSheet}
use Rattle.sheet_ops.specs.Naming.{locate_content}
use Rattle.sheet_ops.specs.Placed.{PlacedSheet, placed, cell_at}
use Rattle.sheet_grid.specs.Cells.{is_empty, occupied_places}
use Rattle.sheet_grid.proofs.FilledColumns.{number_has, has_below}
use Rattle.sheet_grid.specs.Kept.{by_numbers}
use Rattle.sheet_grid.specs.Values.{NumberedSheet, kept_in, placed_in}
use Rattle.generated_run.specs.Sameness.{SameMarks, SameRow, SameAmong, SameCells}

-- lists that have the same at each place
pub same_places : {A : Type 0} (xs ys : List A) → length xs ≡ length ys → ((k : ℕ) → k < length xs → slice_get xs k ≡ slice_get ys k) → xs ≡ ys
same_places [] [] e h = refl
same_places [] (y ∷ ys) e h = absurd (omega arith)
same_places (x ∷ xs) [] e h = absurd (omega arith)
same_places (x ∷ xs) (y ∷ ys) e h =
    let first = h 0 (omega arith) in
    let heads : x ≡ y = cc in
    let tails = same_places xs ys (omega arith) (λ k l. h (suc k) (omega arith)) in
    λ i. heads i ∷ tails i

-- rows of one length
row_length : {A B C : Type 0} (g : A → B → C) (ys : List B) (xs : List A) (i : ℕ) → i < length xs → length (get_or (map (λ x. map (g x) ys) xs) i []) ≡ length ys
row_length g ys [] i h = absurd (omega arith)
row_length g ys (x ∷ xs) zero h = length-map ys (g x)
row_length g ys (x ∷ xs) (suc i) h = row_length g ys xs i (omega arith)

module _ (X Y : IdSheet) where
  abbrev in_cell : (Z : IdSheet) → AxisLine → AxisLine → Content
  in_cell Z r c = locate_content Z (Z.cells r.rec c.rec)

  rows_long : (Z : IdSheet) → length (placed Z).cells ≡ length (placed Z).rows
  rows_long Z = length-map Z.rows.lines (λ r. map (in_cell Z r) Z.cols.lines) ∙ sym (length-map Z.rows.lines (λ l. Z.rows.dead l.rec))

  cols_long : (Z : IdSheet) (row : ℕ) → row < length (placed Z).cells → length (get_or (placed Z).cells row []) ≡ length (placed Z).cols
  cols_long Z row h =
      let as_many = length-map Z.rows.lines (λ r. map (in_cell Z r) Z.cols.lines) in
      let within : row < length Z.rows.lines = subst (λ (n : ℕ). row < n) as_many h in
      row_length (in_cell Z) Z.cols.lines Z.rows.lines row within ∙ sym (length-map Z.cols.lines (λ l. Z.cols.dead l.rec))

  pub same_placed : SameMarks (placed X) (placed Y) → SameCells (placed X) (placed Y) → placed X ≡ placed Y
  same_placed lines cells = λ i. record { rows = lines.0 i; cols = lines.1 i; cells = same i }
    where
      heights : length (placed X).cells ≡ length (placed Y).cells
      heights = rows_long X ∙ (ap (λ (ms : List Bool). length ms) lines.0 ∙ sym (rows_long Y))

      same : (placed X).cells ≡ (placed Y).cells
      same = ext_get_or [] (placed X).cells (placed Y).cells heights (λ row h.
          let there : row < length (placed Y).cells = subst (λ (n : ℕ). row < n) heights h in
          ext_get_or content.Empty (get_or (placed X).cells row []) (get_or (placed Y).cells row [])
          (cols_long X row h ∙ (ap (λ (ms : List Bool). length ms) lines.1 ∙ sym (cols_long Y row there)))
          (λ col k. cells row (subst (λ (n : ℕ). row < n) (rows_long X) h) col (subst (λ (n : ℕ). col < n) (cols_long X row h) k)))

-- ---- along a loop

pub all_places : (xs ys : List Bool) (n : ℕ) → length xs ≡ length ys → length xs ≤ n → ((k : ℕ) → k < n → slice_get xs k ≡ slice_get ys k) → (true ≡ true) ↔ (xs ≡ ys)
all_places xs ys n e long same = ((λ t. same_places xs ys e (λ k h. same k (omega arith))), (λ equal. refl))

-- one place more
pub one_more : (P : ℕ → Type 0) (n : ℕ) (b : Bool) → ((k : ℕ) → k < n → P k) → (b ≡ true) ↔ P n → b ≡ true → (k : ℕ) → k < n + 1 → P k
one_more P n b before here same k h = by_place (same_or_below k n h)
  where
    same_or_below : (j m : ℕ) → j < m + 1 → (j ≡ m) ⊎ (j < m)
    same_or_below j m l = grind arith

    by_place : (k ≡ n) ⊎ (k < n) → P k
    by_place (inl e) = subst P (sym e) (here.0 same)
    by_place (inr l) = before k l

-- one place that differs
pub one_not : (P : ℕ → Type 0) (n m : ℕ) (b : Bool) → n < m → (b ≡ true) ↔ P n → b ≡ false → (false ≡ true) ↔ ((k : ℕ) → k < m → P k)
one_not P n m b within here differs = ((λ e. absurd (cc)), (λ all. let same : b ≡ true = here.1 (all n within) in cc))

-- with the same marks two sheets are equal exactly where their cells hold the same
pub by_cells : (V W : NumberedSheet) (r : Result Bool Memory) → SameMarks (placed_in V) (placed_in W) →
    IfOk r (λ s. (s ≡ true) ↔ SameCells (placed_in V) (placed_in W)) → IfOk r (λ s. (s ≡ true) ↔ (placed_in V ≡ placed_in W))
by_cells V W (Ok s) lines h = (
  (λ t. same_placed (by_numbers (kept_in V)) (by_numbers (kept_in W)) lines (h.0 t)),
  (λ e. h.1 (λ row in_rows col in_cols. ap (λ (P : PlacedSheet). cell_at P row col) e)),
)
by_cells V W (Err e) lines h = tt

-- ---- where both hold something in the same columns
empty_is : (c : Content) → is_empty c ≡ true → c ≡ content.Empty
empty_is content.Empty e = refl
empty_is (content.Num z) e = absurd (cc)
empty_is (content.Text t) e = absurd (cc)
empty_is (content.Formula t) e = absurd (cc)

module _ (P Q : PlacedSheet) (row : ℕ) (as_many : length P.cols ≡ length Q.cols) where
  -- listed exactly where it is in the sheet and not empty
  listed : (R : PlacedSheet) (col : ℕ) → col < length R.cols → has_number (occupied_places R row) col ≡ not (is_empty (cell_at R row col))
  listed R col h =
      has_filter (λ k. not (is_empty (cell_at R row k))) (numbers_from 0 (length R.cols)) col
      ∙ ap (λ (t : Bool). t && not (is_empty (cell_at R row col))) (number_has 0 (length R.cols) col (omega arith) (omega (arith, h)))

  pub listed_within : (cols : List ℕ) → cols ≡ occupied_places P row → (k : ℕ) → k < length cols → slice_index cols k < length P.cols
  listed_within cols is k h =
      let in_filter : has_number (occupied_places P row) (slice_index cols k) ≡ true = ap (λ (ns : List ℕ). has_number ns (slice_index cols k)) (sym is) ∙ contains_has cols (slice_index cols k) (k, h, get_or_default cols k (slice_index cols k) 0 h) in
      let below = has_below 0 (length P.cols) (slice_index cols k)
      (first_of (has_number (numbers_from 0 (length P.cols)) (slice_index cols k)) (not (is_empty (cell_at P row (slice_index cols k))))
      (sym (has_filter (λ j. not (is_empty (cell_at P row j))) (numbers_from 0 (length P.cols)) (slice_index cols k)) ∙ in_filter)) in
      omega (arith, below)
    where
      first_of : (s t : Bool) → s && t ≡ true → s ≡ true
      first_of true t e = refl
      first_of false t e = e

  pub same_occupied : (cols : List ℕ) → cols ≡ occupied_places P row → cols ≡ occupied_places Q row → (b : Bool) → (b ≡ true) ↔ SameAmong P Q row cols → (b ≡ true) ↔ SameRow P Q row
  same_occupied cols p q b here = (
    (λ e col h. by_empty col h (true_or_false (is_empty (cell_at P row col))) (here.0 e)),
    (λ all. here.1 (λ k h. all (slice_index cols k) (listed_within cols p k h))),
  )
    where
      by_empty : (col : ℕ) → col < length P.cols → ((is_empty (cell_at P row col) ≡ true) ⊎ (is_empty (cell_at P row col) ≡ false)) → SameAmong P Q row cols → cell_at P row col ≡ cell_at Q row col
      by_empty col h (inr full) among =
          let there : has_number cols col ≡ true = ap (λ (ns : List ℕ). has_number ns col) p ∙ (listed P col h ∙ ap not full) in
          at_index (has_contains cols col there)
        where
          at_index : Contains cols col → cell_at P row col ≡ cell_at Q row col
          at_index (k, within, at) =
              let is : slice_index cols k ≡ col = get_or_default cols k 0 col within ∙ at in
              subst (λ (j : ℕ). cell_at P row j ≡ cell_at Q row j) is (among k within)
      by_empty col h (inl none) among =
          let other : not (is_empty (cell_at Q row col)) ≡ false =
          sym (listed Q col (subst (λ (n : ℕ). col < n) as_many h)) ∙ (ap (λ (ns : List ℕ). has_number ns col) (sym q ∙ p) ∙ (listed P col h ∙ ap not none)) in
          empty_is (cell_at P row col) none ∙ sym (empty_is (cell_at Q row col) (turned (is_empty (cell_at Q row col)) other))
        where
          turned : (t : Bool) → not t ≡ false → t ≡ true
          turned true e = refl
          turned false e = sym e

  -- where the same is held, the same columns are filled
  pub occupied_same : SameRow P Q row → occupied_places P row ≡ occupied_places Q row
  occupied_same same =
      filter_same (λ k. not (is_empty (cell_at P row k))) (λ k. not (is_empty (cell_at Q row k))) (numbers_from 0 (length P.cols))
      (λ k there. ap (λ (c : Content). not (is_empty c)) (same k (let b = has_below 0 (length P.cols) k there in omega (arith, b))))
      ∙ ap (λ (n : ℕ). filter (λ k. not (is_empty (cell_at Q row k))) (numbers_from 0 n)) as_many

-- what a test of two lists has told
pub lists_equal : (xs ys : List ℕ) → false ≡ not (pointwise nat_eq xs ys) → xs ≡ ys
lists_equal xs ys e = same_text xs ys (turned (pointwise nat_eq xs ys) e)
  where
    turned : (t : Bool) → false ≡ not t → true ≡ t
    turned true e = refl
    turned false e = sym e

pub lists_differ : (xs ys : List ℕ) → true ≡ not (pointwise nat_eq xs ys) → xs ≢ ys
lists_differ xs ys e = other_text xs ys (turned (pointwise nat_eq xs ys) e)
  where
    turned : (t : Bool) → true ≡ not t → false ≡ t
    turned true e = sym e
    turned false e = refl
