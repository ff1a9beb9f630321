-- Rows of contents, all of one length, and those of the rows' maps.
use Rattle.std.proofs.Common.{◌≡◌, ℕ, zero, suc, ◌+◌, ◌<◌, ◌≤◌, ◌++◌, Bool, true, false, cond, List, [], ◌∷◌, length, refl, ap, sym, ◌∙◌, arith, length-set, get_or-set_same, get_or-set_other}
use Rattle.std.specs.Prelude.{◌&&◌, nat_eq, map, replicate, slice_index_or, slice_set, unwrap_or, Option}
use Rattle.std.specs.BTreeMap.{BTreeMap}
use Rattle.std.proofs.lemmas.List.{length-map, get_or_default, same_lists}
use Rattle.ss_base.specs.declared.types.Size.{Size}
use Rattle.sheet_ops.specs.declared.content.Content.{Content}
use Rattle.sheet_ops.specs.declared.content.Content.TheVariants as content
use Rattle.sheet_ops.specs.declared.content.Put.{Put}
use Rattle.sheet_ops.specs.Effects.{cell_written, cells_written}
use Rattle.sheet_ops.proofs.Ids.{same_number}
use Rattle.sheet_ops.proofs.Members.{other_number}
use Rattle.sheet_grid.specs.Kept.{held, no_cells}
use Rattle.sheet_grid.specs.Rows.{put_kept, puts_kept, AllFit}
use Rattle.sheet_grid.specs.Values.{stored_at, contents_from, grid_of, IsShaped}

-- ---- two grids of one shape with the same contents are one
pub same_grids : (rows cols : ℕ) (G H : List (List Content)) → IsShaped rows cols G → IsShaped rows cols H → ((a b : ℕ) → stored_at G a b ≡ stored_at H a b) → G ≡ H
same_grids rows cols G H g h same =
    same_lists G H (g.0 ∙ sym h.0) (λ a d inside.
    let here : a < rows = let n = g.0 in omega (arith, inside, n) in
    get_or_default G a d [] inside
    ∙ (same_rows (slice_index_or G a []) (slice_index_or H a []) (g.1 a here ∙ sym (h.1 a here)) (same a)
    ∙ get_or_default H a [] d (let n = h.0 in omega (arith, here, n))))
  where
    same_rows : (xs ys : List Content) → length xs ≡ length ys → ((b : ℕ) → slice_index_or xs b content.Empty ≡ slice_index_or ys b content.Empty) → xs ≡ ys
    same_rows xs ys long at =
        same_lists xs ys long (λ b e inside. get_or_default xs b e content.Empty inside ∙ (at b ∙ get_or_default ys b content.Empty e (omega (arith, inside, long))))

-- ---- cells written
module _ (rows cols : ℕ) (G : List (List Content)) (shape : IsShaped rows cols G) (p : Put) (row : p.row < rows) (col : p.col < cols) where
  abbrev row_written : List Content
  row_written = slice_set (slice_index_or G p.row []) p.col p.content

  row_after : (a : ℕ) (t : Bool) → nat_eq p.row a ≡ t → slice_index_or (cell_written G p) a [] ≡ cond t row_written (slice_index_or G a [])
  row_after a true e =
      ap (λ (k : ℕ). slice_index_or (cell_written G p) k []) (sym (same_number p.row a e)) ∙ get_or-set_same G p.row row_written [] (let n = shape.0 in omega (arith, row, n))
  row_after a false e = get_or-set_other G p.row a row_written [] (λ s. other_number p.row a e (sym s))

  pub shape_written : IsShaped rows cols (cell_written G p)
  shape_written = (length-set G p.row row_written ∙ shape.0, λ a h. ap length (row_after a (nat_eq p.row a) refl) ∙ by_test (nat_eq p.row a) a h)
    where
      by_test : (t : Bool) (a : ℕ) → a < rows → length (cond t row_written (slice_index_or G a [])) ≡ cols
      by_test true a h = length-set (slice_index_or G p.row []) p.col p.content ∙ shape.1 p.row row
      by_test false a h = shape.1 a h

  in_row : (a b : ℕ) → p.row ≡ a → (t : Bool) → nat_eq p.col b ≡ t → slice_index_or row_written b content.Empty ≡ cond t p.content (stored_at G a b)
  in_row a b r true e =
      ap (λ (k : ℕ). slice_index_or row_written k content.Empty) (sym (same_number p.col b e))
      ∙ get_or-set_same (slice_index_or G p.row []) p.col p.content content.Empty (let n = shape.1 p.row row in omega (arith, col, n))
  in_row a b r false e = get_or-set_other (slice_index_or G p.row []) p.col b p.content content.Empty (λ s. other_number p.col b e (sym s)) ∙ ap (λ (k : ℕ). stored_at G k b) r

  pub stored_written : (a b : ℕ) → stored_at (cell_written G p) a b ≡ put_kept (stored_at G) p a b
  stored_written a b = ap (λ (cells : List Content). slice_index_or cells b content.Empty) (row_after a (nat_eq p.row a) refl) ∙ by_test (nat_eq p.row a) refl
    where
      by_test : (t : Bool) → nat_eq p.row a ≡ t → slice_index_or (cond t row_written (slice_index_or G a [])) b content.Empty ≡ cond (t && nat_eq p.col b) p.content (stored_at G a b)
      by_test true e = in_row a b (same_number p.row a e) (nat_eq p.col b) refl
      by_test false e = refl

module _ (size : Size) where
  pub shape_puts : (G : List (List Content)) → IsShaped size.rows size.cols G → (ps : List Put) → AllFit size ps → IsShaped size.rows size.cols (cells_written G ps)
  shape_puts G s [] f = s
  shape_puts G s (p ∷ ps) f = shape_puts (cell_written G p) (shape_written size.rows size.cols G s p f.0 f.1) ps f.3

  pub stored_puts : (G : List (List Content)) → IsShaped size.rows size.cols G → (ps : List Put) → AllFit size ps → (a b : ℕ) → stored_at (cells_written G ps) a b ≡ puts_kept (stored_at G) ps a b
  stored_puts G s [] f a b = refl
  stored_puts G s (p ∷ ps) f a b =
      stored_puts (cell_written G p) (shape_written size.rows size.cols G s p f.0 f.1) ps f.3 a b
      ∙ ap (λ (cells : ℕ → ℕ → Content). puts_kept cells ps a b) (λ i c d. stored_written size.rows size.cols G s p f.0 f.1 c d i)

-- ---- the contents of a row's map, and of all rows
pub content_at : (cells : ℕ → Option Content) (first count k : ℕ) → k < count → slice_index_or (contents_from cells first count) k content.Empty ≡ unwrap_or (cells (first + k)) content.Empty
content_at cells first zero k h = absurd (omega arith)
content_at cells first (suc count) zero h = ap (λ (j : ℕ). unwrap_or (cells j) content.Empty) (let z : first ≡ first + 0 = omega arith in z)
content_at cells first (suc count) (suc k) h = content_at cells (suc first) count k (omega arith) ∙ ap (λ (j : ℕ). unwrap_or (cells j) content.Empty) (let z : suc first + k ≡ first + suc k = omega arith in z)

pub past_end : (cells : ℕ → Option Content) (first count k : ℕ) → count ≤ k → slice_index_or (contents_from cells first count) k content.Empty ≡ content.Empty
past_end cells first zero k h = refl
past_end cells first (suc count) zero h = absurd (omega arith)
past_end cells first (suc count) (suc k) h = past_end cells (suc first) count k (omega arith)

length-contents_from : (cells : ℕ → Option Content) (first count : ℕ) → length (contents_from cells first count) ≡ count
length-contents_from cells first zero = refl
length-contents_from cells first (suc count) = ap suc (length-contents_from cells (suc first) count)

pub row_at : (cols : ℕ) (rows : List (ℕ → Option Content)) (row : ℕ) → row < length rows → slice_index_or (grid_of cols rows) row [] ≡ contents_from (slice_index_or rows row no_cells) 0 cols
row_at cols [] row h = absurd (omega arith)
row_at cols (cells ∷ rows) zero h = refl
row_at cols (cells ∷ rows) (suc row) h = row_at cols rows row (omega arith)

pub no_row_at : (cols : ℕ) (rows : List (ℕ → Option Content)) (row : ℕ) → length rows ≤ row → slice_index_or (grid_of cols rows) row [] ≡ []
no_row_at cols [] row h = refl
no_row_at cols (cells ∷ rows) zero h = absurd (omega arith)
no_row_at cols (cells ∷ rows) (suc row) h = no_row_at cols rows row (omega arith)

pub shape_grid : (cols : ℕ) (rows : List (ℕ → Option Content)) → IsShaped (length rows) cols (grid_of cols rows)
shape_grid cols rows = (
  length-map rows (λ (cells : ℕ → Option Content). contents_from cells 0 cols),
  λ a h. ap length (row_at cols rows a h) ∙ length-contents_from (slice_index_or rows a no_cells) 0 cols,
)

-- a row more, with nothing in it
pub nothing_from : (first count : ℕ) → contents_from no_cells first count ≡ replicate count content.Empty
nothing_from first zero = refl
nothing_from first (suc count) = ap (λ (cs : List Content). content.Empty ∷ cs) (nothing_from (suc first) count)

pub grid_row_more : (cols : ℕ) (maps : List (BTreeMap ℕ Content)) (m : BTreeMap ℕ Content) → held m ≡ no_cells → grid_of cols (map held (maps ++ m ∷ [])) ≡ grid_of cols (map held maps) ++ replicate cols content.Empty ∷ []
grid_row_more cols [] m e = ap (λ (cells : ℕ → Option Content). contents_from cells 0 cols ∷ []) e ∙ ap (λ (row : List Content). row ∷ []) (nothing_from 0 cols)
grid_row_more cols (n ∷ maps) m e = ap (λ (rows : List (List Content)). contents_from (held n) 0 cols ∷ rows) (grid_row_more cols maps m e)

-- a column more, with nothing in it
one_content_more : (cells : ℕ → Option Content) (first count : ℕ) → unwrap_or (cells (first + count)) content.Empty ≡ content.Empty → contents_from cells first (suc count) ≡ contents_from cells first count ++ content.Empty ∷ []
one_content_more cells first zero e = ap (λ (c : Content). c ∷ []) (ap (λ (j : ℕ). unwrap_or (cells j) content.Empty) (let z : first ≡ first + 0 = omega arith in z) ∙ e)
one_content_more cells first (suc count) e =
    ap (λ (cs : List Content). unwrap_or (cells first) content.Empty ∷ cs)
    (one_content_more cells (suc first) count (ap (λ (j : ℕ). unwrap_or (cells j) content.Empty) (let z : suc first + count ≡ first + suc count = omega arith in z) ∙ e))

pub grid_col_more : (cols : ℕ) (rows : List (ℕ → Option Content)) → ((a : ℕ) → unwrap_or (slice_index_or rows a no_cells cols) content.Empty ≡ content.Empty) →
    grid_of (cols + 1) rows ≡ map (λ row. row ++ content.Empty ∷ []) (grid_of cols rows)
grid_col_more cols rows none = ap (λ (n : ℕ). grid_of n rows) (let z : cols + 1 ≡ suc cols = omega arith in z) ∙ each rows none
  where
    each : (rows : List (ℕ → Option Content)) → ((a : ℕ) → unwrap_or (slice_index_or rows a no_cells cols) content.Empty ≡ content.Empty) →
        grid_of (suc cols) rows ≡ map (λ row. row ++ content.Empty ∷ []) (grid_of cols rows)
    each [] none = refl
    each (cells ∷ rows) none = λ i. one_content_more cells 0 cols (ap (λ (j : ℕ). unwrap_or (cells j) content.Empty) (let z : 0 + cols ≡ cols = omega arith in z) ∙ none 0) i ∷ each rows (λ a. none (suc a)) i
