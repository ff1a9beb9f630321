-- What the rows of a sheet hold, read once, and whether another sheet holds the same.
use Rattle.std.proofs.Common.{◌≡◌, ◌≢◌, ℕ, ◌+◌, ◌<◌, ◌≤◌, Bool, true, false, List, [], ◌∷◌, ◌++◌, length, refl, ap, sym, ◌∙◌, subst, arith, Ok, Err, inl, inr}
use Rattle.std.specs.Prelude.{slice_index, slice_index_or, ◌↔◌, ◌⊎◌, Result, IfOk}
use Rattle.std.proofs.Math.Seq.{get_or-append_seam}
use Rattle.std.proofs.lemmas.List.{get_or-map, get_or_default, get_or_append_left, length-map}
use Rattle.ss_base.specs.declared.types.Memory.{Memory}
use Rattle.sheet_ops.specs.declared.content.Content.{Content}
use Rattle.sheet_ops.specs.declared.content.Content.TheVariants as content
use Rattle.sheet_ops.specs.Placed.{PlacedSheet, cell_at}
use Rattle.sheet_grid.specs.Cells.{occupied_places}
use Rattle.generated_run.specs.declared.held.RowHeld.{RowHeld}
use Rattle.generated_run.specs.Held.{IsRowHeld, AreRowsHeld, AreWhole, HoldsAmong, HoldsRow, HoldsRows}
use Rattle.generated_run.specs.Sameness.{SameMarks, SameRow, SameCells}
use Rattle.generated_run.proofs.SameSheets.{listed_within, same_occupied, occupied_same}

pub as_many_contents : (Q : PlacedSheet) (row : ℕ) (h : RowHeld) → IsRowHeld Q row h → length h.contents.items ≡ length h.cols.items
as_many_contents Q row h is = ap (λ (cs : List Content). length cs) is.contents ∙ length-map h.cols.items (cell_at Q row)

module _ (P Q : PlacedSheet) (row : ℕ) (as_many : length P.cols ≡ length Q.cols) (h : RowHeld) (is : IsRowHeld Q row h) where
  content_is : (k : ℕ) → k < length h.cols.items → slice_index_or h.contents.items k content.Empty ≡ cell_at Q row (slice_index h.cols.items k)
  content_is k within = ap (λ (cs : List Content). slice_index_or cs k content.Empty) is.contents ∙ get_or-map (cell_at Q row) h.cols.items k 0 content.Empty within

  pub row_same : HoldsRow P row h → SameRow P Q row
  row_same holds = (same_occupied P Q row as_many h.cols.items (sym holds.0) is.cols true ((λ t k within. holds.1 k within ∙ content_is k within), (λ among. refl))).0 refl

  pub row_holds : SameRow P Q row → HoldsRow P row h
  row_holds same =
      let cols : h.cols.items ≡ occupied_places P row = is.cols ∙ sym (occupied_same P Q row as_many same) in
      (sym cols, (λ k within. same (slice_index h.cols.items k) (listed_within P Q row as_many h.cols.items cols k within) ∙ sym (content_is k within)))

-- a sheet with the same marks holds the rows of another exactly where their cells hold the same
module _ (P Q : PlacedSheet) (marks : SameMarks P Q) (hs : List RowHeld) (held : AreRowsHeld Q hs) where
  pub as_many_rows : length hs ≡ length P.rows
  as_many_rows = held.many ∙ sym (ap (λ (ms : List Bool). length ms) marks.0)

  pub all_whole : AreWhole hs
  all_whole row d within = as_many_contents Q row (slice_index_or hs row d) (held.each row d within)

  cols : length P.cols ≡ length Q.cols
  cols = ap (λ (ms : List Bool). length ms) marks.1

  inside : (row : ℕ) → row < length P.rows → row < length hs
  inside row within = omega (arith, within, as_many_rows)

  some_row : (row : ℕ) → row < length hs → RowHeld
  some_row row within = first hs within
    where
      first : (xs : List RowHeld) → row < length xs → RowHeld
      first [] h = absurd (omega arith)
      first (x ∷ xs) h = x

  pub cells_same : (r : Result Bool Memory) → IfOk r (λ s. (s ≡ true) ↔ HoldsRows P hs) → IfOk r (λ s. (s ≡ true) ↔ SameCells P Q)
  cells_same (Err e) h = tt
  cells_same (Ok s) h = (
    (λ t row within.
        let d = some_row row (inside row within) in
        row_same P Q row cols (slice_index_or hs row d) (held.each row d (inside row within)) (h.0 t row d within)),
    (λ same. h.1 (λ row d within. row_holds P Q row cols (slice_index_or hs row d) (held.each row d (inside row within)) (same row within))),
  )

-- ---- one row
module _ (P : PlacedSheet) (row : ℕ) (h : RowHeld) (xs : List ℕ) (occupied : xs ≡ occupied_places P row) where
  pub row_differs : (ys : List ℕ) → ys ≡ h.cols.items → xs ≢ ys → (false ≡ true) ↔ HoldsRow P row h
  row_differs ys is differ = ((λ e. absurd (cc)), (λ holds. absurd (differ (occupied ∙ (holds.0 ∙ sym is)))))

  pub row_by_among : (ys : List ℕ) → ys ≡ h.cols.items → xs ≡ ys → (contents : List Content) → contents ≡ h.contents.items → (r : Result Bool Memory) → IfOk r (λ s. (s ≡ true) ↔ HoldsAmong P row xs contents) → IfOk r (λ s. (s ≡ true) ↔ HoldsRow P row h)
  row_by_among ys is same contents held (Err e) g = tt
  row_by_among ys is same contents held (Ok s) g = (
    (λ t. (sym occupied ∙ (same ∙ is), subst (λ (cs : List Content). HoldsAmong P row h.cols.items cs) held (subst (λ (ns : List ℕ). HoldsAmong P row ns contents) (same ∙ is) (g.0 t)))),
    (λ holds. g.1 (subst (λ (ns : List ℕ). HoldsAmong P row ns contents) (sym (same ∙ is)) (subst (λ (cs : List Content). HoldsAmong P row h.cols.items cs) (sym held) holds.1))),
  )

-- a content at a place of a list, whatever stands beyond it
pub at_content : (c : Content) (contents : List Content) (k : ℕ) (d : Content) (b : Bool) → k < length contents → d ≡ slice_index_or contents k d → (b ≡ true) ↔ (c ≡ d) → (b ≡ true) ↔ (c ≡ slice_index_or contents k content.Empty)
at_content c contents k d b within is here = subst (λ (e : Content). (b ≡ true) ↔ (c ≡ e)) (is ∙ get_or_default contents k d content.Empty within) here

pub all_hold : (P : PlacedSheet) (row : ℕ) (cols : List ℕ) (contents : List Content) (n : ℕ) → length cols ≤ n → ((k : ℕ) → k < n → cell_at P row (slice_index cols k) ≡ slice_index_or contents k content.Empty) → (true ≡ true) ↔ HoldsAmong P row cols contents
all_hold P row cols contents n long same = ((λ t k h. same k (omega arith)), (λ equal. refl))

-- ---- along the rows
pub row_more : (P : PlacedSheet) (hs : List RowHeld) (n : ℕ) (h : RowHeld) (b : Bool) → n < length hs → h ≡ slice_index_or hs n h → ((row : ℕ) (d : RowHeld) → row < n → HoldsRow P row (slice_index_or hs row d)) →
    (b ≡ true) ↔ HoldsRow P n h → b ≡ true → (row : ℕ) (d : RowHeld) → row < n + 1 → HoldsRow P row (slice_index_or hs row d)
row_more P hs n h b inside is before here same row d within = by_place (same_or_below row n within)
  where
    same_or_below : (j m : ℕ) → j < m + 1 → (j ≡ m) ⊎ (j < m)
    same_or_below j m l = grind arith

    by_place : (row ≡ n) ⊎ (row < n) → HoldsRow P row (slice_index_or hs row d)
    by_place (inr l) = before row d l
    by_place (inl e) = subst (λ (k : ℕ). HoldsRow P k (slice_index_or hs k d)) (sym e) (subst (λ (g : RowHeld). HoldsRow P n g) (is ∙ get_or_default hs n h d inside) (here.0 same))

pub row_not : (P : PlacedSheet) (hs : List RowHeld) (n : ℕ) (h : RowHeld) (b : Bool) → n < length hs → h ≡ slice_index_or hs n h → n < length P.rows → (b ≡ true) ↔ HoldsRow P n h → b ≡ false → (false ≡ true) ↔ HoldsRows P hs
row_not P hs n h b inside is within here differs = (
  (λ e. absurd (cc)),
  (λ all. let same : b ≡ true = here.1 (subst (λ (g : RowHeld). HoldsRow P n g) (sym is) (all n h within)) in cc),
)

pub all_rows_hold : (P : PlacedSheet) (hs : List RowHeld) (n : ℕ) → length P.rows ≤ n → ((row : ℕ) (d : RowHeld) → row < n → HoldsRow P row (slice_index_or hs row d)) → (true ≡ true) ↔ HoldsRows P hs
all_rows_hold P hs n long before = ((λ t row d within. before row d (omega arith)), (λ all. refl))

-- ---- rows read
pub rows_more : (Q : PlacedSheet) (hs : List RowHeld) (n : ℕ) (h : RowHeld) → length hs ≡ n → ((row : ℕ) (d : RowHeld) → row < n → IsRowHeld Q row (slice_index_or hs row d)) → IsRowHeld Q n h →
    (row : ℕ) (d : RowHeld) → row < n + 1 → IsRowHeld Q row (slice_index_or (hs ++ h ∷ []) row d)
rows_more Q hs n h many before here row d within = by_place (same_or_below row n within)
  where
    same_or_below : (j m : ℕ) → j < m + 1 → (j ≡ m) ⊎ (j < m)
    same_or_below j m l = grind arith

    by_place : (row ≡ n) ⊎ (row < n) → IsRowHeld Q row (slice_index_or (hs ++ h ∷ []) row d)
    by_place (inl e) = subst (λ (k : ℕ). IsRowHeld Q k (slice_index_or (hs ++ h ∷ []) k d)) (sym e) (subst (λ (g : RowHeld). IsRowHeld Q n g) (sym (last n (sym many))) here)
      where
        last : (m : ℕ) → m ≡ length hs → slice_index_or (hs ++ h ∷ []) m d ≡ h
        last m same = ap (λ (k : ℕ). slice_index_or (hs ++ h ∷ []) k d) same ∙ get_or-append_seam hs h [] d
    by_place (inr l) = subst (λ (g : RowHeld). IsRowHeld Q row g) (sym (get_or_append_left hs (h ∷ []) d row (omega (arith, l, many)))) (before row d l)
