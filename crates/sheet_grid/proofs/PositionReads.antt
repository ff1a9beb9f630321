-- What is read by positions of all that is kept.
use Rattle.std.proofs.Common.{◌≡◌, ◌≢◌, ℕ, ◌<◌, Bool, true, List, [], length, refl, ap, sym, ◌∙◌, subst, arith, Option, Some, None}
use Rattle.std.specs.Prelude.{filter, map, not, slice_index, slice_index_or, unwrap_or, is_some, Result, Ok, Err, OnOk}
use Rattle.std.specs.BTreeMap.{BTreeMap}
use Rattle.ss_base.specs.declared.types.Size.{Size}
use Rattle.sheet_ops.specs.declared.content.Content.{Content}
use Rattle.sheet_ops.specs.declared.content.Content.TheVariants as content
use Rattle.sheet_ops.specs.declared.operation.Effect.{Effect}
use Rattle.sheet_ops.specs.LineIds.{LineId}
use Rattle.sheet_ops.specs.Lines.{AxisLine, Axis, no_line}
use Rattle.sheet_ops.specs.Identity.{IdContent, IdSheet, blank, number, text, formula}
use Rattle.sheet_ops.specs.Naming.{locate_content}
use Rattle.sheet_ops.specs.Placed.{PlacedSheet, placed, placed_size, size_of, cell_at}
use Rattle.sheet_ops.specs.Fits.{ContentFits, EffectFits}
use Rattle.sheet_ops.specs.Effects.{effect_on, StepsTo}
use Rattle.sheet_ops.proofs.Written.{index_map}
use Rattle.sheet_ops.proofs.PlacedSteps.{placed-step}
use Rattle.sheet_ops.specs.Fits.{GridFits}
use Rattle.std.proofs.lemmas.List.{length-map}
use Rattle.marked_lines.specs.Marks.{visible_places}
use Rattle.sheet_ops.specs.Lines.{has_number}
use Rattle.sheet_ops.specs.Transforms.{numbers_from}
use Rattle.sheet_ops.proofs.Members.{filter_same}
use Rattle.sheet_grid.specs.Cells.{kind_of, is_empty, filled_places, occupied_places}
use Rattle.sheet_grid.specs.Kept.{NumberedAxis, axis, content_meant, by_numbers, kept_of, IsSheet, IsTidy, rec_number, held, no_cells, cell_kept}
use Rattle.sheet_grid.specs.Values.{NumberedSheet, placed_in, stored_at, numbered_sheet_of}
use Rattle.sheet_grid.specs.Numbering.{lines_alone, content_placed}
use Rattle.sheet_grid.proofs.Meanings.{rec_there, length-lines_of}
use Rattle.sheet_grid.proofs.WellFormed.{kept_inside}
use Rattle.sheet_grid.proofs.MarkedLines.{size_kept}
use Rattle.sheet_grid.proofs.TidySheets.{Maps, rows_axis, cols_axis}
use Rattle.sheet_grid.proofs.SheetValues.{stored_is, placed_is}
use Rattle.sheet_grid.proofs.Marks.{marks_kept}
use Rattle.sheet_grid.proofs.NumberPlaces.{recs_count, marks_count}
use Rattle.sheet_grid.proofs.FilledColumns.{has_visible, mark_there, has_below}
use Rattle.sheet_grid.proofs.StoredCells.{held-index}

-- where references stand has nothing to do with what the cells hold
locate_beside : (R C : Axis) (f g : LineId → LineId → IdContent) (c : IdContent) → locate_content (record { rows = R; cols = C; cells = f }) c ≡ locate_content (record { rows = R; cols = C; cells = g }) c
locate_beside R C f g blank = refl
locate_beside R C f g (number z) = refl
locate_beside R C f g (text t) = refl
locate_beside R C f g (formula t) = refl

size_placed : (X : IdSheet) → placed_size (placed X) ≡ size_of X
size_placed X = λ i. record { rows = length-map X.rows.lines (λ (l : AxisLine). X.rows.dead l.rec) i; cols = length-map X.cols.lines (λ (l : AxisLine). X.cols.dead l.rec) i }

-- the map of a row that is there
pub map_read : (maps : Maps) (d : BTreeMap ℕ Content) (row col : ℕ) → row < length maps → unwrap_or (held (slice_index_or maps row d) col) content.Empty ≡ cell_kept maps row col
map_read maps d row col h = λ i. unwrap_or (held-index maps row d h i col) content.Empty

-- no key has an empty content
filled_is : (o : Option Content) → o ≢ Some content.Empty → is_some o ≡ not (is_empty (unwrap_or o content.Empty))
filled_is None h = refl
filled_is (Some content.Empty) h = absurd (h refl)
filled_is (Some (content.Num z)) h = refl
filled_is (Some (content.Text t)) h = refl
filled_is (Some (content.Formula t)) h = refl

-- a content is of the same kind by numbers and by positions
pub kind_placed : (rows cols : NumberedAxis) (c : Content) → kind_of (content_placed rows cols c) ≡ kind_of c
kind_placed rows cols content.Empty = refl
kind_placed rows cols (content.Num z) = refl
kind_placed rows cols (content.Text t) = refl
kind_placed rows cols (content.Formula t) = refl

empty_placed : (rows cols : NumberedAxis) (c : Content) → is_empty (content_placed rows cols c) ≡ is_empty c
empty_placed rows cols content.Empty = refl
empty_placed rows cols (content.Num z) = refl
empty_placed rows cols (content.Text t) = refl
empty_placed rows cols (content.Formula t) = refl

module _ (rows cols : NumberedAxis) (maps : Maps) (ok : IsTidy rows cols maps) (V : NumberedSheet) (is : numbered_sheet_of rows cols maps ≡ V) where
  abbrev X : IdSheet
  X = by_numbers (kept_of rows cols maps)

  pub sizes : placed_size (placed_in V) ≡ record { rows = length rows.slots; cols = length cols.slots }
  sizes = ap placed_size (sym (placed_is rows cols maps ok V is)) ∙ size_kept (kept_of rows cols maps) ok.kept

  -- how many positions there are
  pub row_places : length (placed_in V).rows ≡ length rows.slots
  row_places = ap (λ (s : Size). s.rows) sizes

  pub col_places : length (placed_in V).cols ≡ length cols.slots
  col_places = ap (λ (s : Size). s.cols) sizes

  -- the marks by position
  pub row_marks : rows.marks ≡ (placed_in V).rows
  row_marks = sym (marks_kept rows (rows_axis rows cols maps ok)) ∙ ap (λ (Q : PlacedSheet). Q.rows) (placed_is rows cols maps ok V is)

  pub col_marks : cols.marks ≡ (placed_in V).cols
  col_marks = sym (marks_kept cols (cols_axis rows cols maps ok)) ∙ ap (λ (Q : PlacedSheet). Q.cols) (placed_is rows cols maps ok V is)

  pub cell_read : (row col : ℕ) → row < length (placed_in V).rows → col < length (placed_in V).cols → content_placed rows cols (cell_kept maps (rec_number rows row) (rec_number cols col)) ≡ cell_at (placed_in V) row col
  cell_read row col h j =
      let ra = recs_count rows (rows_axis rows cols maps ok) in
      let ca = recs_count cols (cols_axis rows cols maps ok) in
      let r : row < length rows.slots = let n = row_places in omega (arith, h, n) in
      let c : col < length cols.slots = let n = col_places in omega (arith, j, n) in
      let rl : row < length (axis rows).lines = let n = length-lines_of rows.slots rows.recs ra in omega (arith, r, n) in
      let cl : col < length (axis cols).lines = let n = length-lines_of cols.slots cols.recs ca in omega (arith, c, n) in
      locate_beside (axis rows) (axis cols) (lines_alone rows cols).cells X.cells (content_meant (axis rows) (axis cols) (cell_kept maps (rec_number rows row) (rec_number cols col)))
      ∙ ((λ i. locate_content X (X.cells (sym (rec_there rows.slots rows.recs row ra r) i) (sym (rec_there cols.slots cols.recs col ca c) i)))
      ∙ (sym (index_map (λ (l : AxisLine). locate_content X (X.cells (slice_index_or (axis rows).lines row no_line).rec l.rec)) content.Empty (axis cols).lines col cl)
      ∙ (sym (ap (λ (cells : List Content). slice_index_or cells col content.Empty) (index_map (λ (k : AxisLine). map (λ (l : AxisLine). locate_content X (X.cells k.rec l.rec)) (axis cols).lines) [] (axis rows).lines row rl))
      ∙ ap (λ (Q : PlacedSheet). cell_at Q row col) (placed_is rows cols maps ok V is))))

  pub all_inside : GridFits (placed_size (placed_in V)) (placed_in V).cells
  all_inside =
      subst (λ (Q : PlacedSheet). GridFits (placed_size Q) Q.cells) (placed_is rows cols maps ok V is)
      (subst (λ (s : Size). GridFits s (placed X).cells) (sym (size_placed X)) (by_kept ok.kept))
    where
      by_kept : IsSheet (kept_of rows cols maps) → GridFits (size_of X) (placed X).cells
      by_kept (rs, rr, cs, cr, all) = kept_inside (kept_of rows cols maps) rs rr cs cr all

  pub cell_fits : (row col : ℕ) → ContentFits (record { rows = length rows.slots; cols = length cols.slots }) (cell_kept maps row col)
  cell_fits row col = by_kept ok.kept
    where
      by_kept : IsSheet (kept_of rows cols maps) → ContentFits (record { rows = length rows.slots; cols = length cols.slots }) (cell_kept maps row col)
      by_kept (rs, rr, cs, cr, all) = all.fits row col

  -- what is read under a number is what is stored there
  pub stored_read : (rec col : ℕ) → cell_kept maps rec col ≡ stored_at V.cells rec col
  stored_read rec col = sym (stored_is rows cols maps ok rec col) ∙ ap (λ (W : NumberedSheet). stored_at W.cells rec col) is

  -- the columns of the map of a row under which something is
  key_read : (d : BTreeMap ℕ Content) (row : ℕ) → row < length (placed_in V).rows → (p : ℕ) → p < length (placed_in V).cols →
      is_some (held (slice_index_or maps (slice_index rows.recs row) d) (rec_number cols p)) ≡ not (is_empty (cell_at (placed_in V) row p))
  key_read d row h p within =
      ap (λ (cells : ℕ → Option Content). is_some (cells (rec_number cols p))) (held-index maps (slice_index rows.recs row) d there)
      ∙ (filled_is (slice_index_or (map held maps) (slice_index rows.recs row) no_cells (rec_number cols p)) (ok.filled (slice_index rows.recs row) (rec_number cols p))
      ∙ ap not (sym (empty_placed rows cols (cell_kept maps (slice_index rows.recs row) (rec_number cols p))) ∙ ap is_empty (cell_read row p h within)))
    where
      there : slice_index rows.recs row < length maps
      there =
          let b = (rows_axis rows cols maps ok).2.recs.back row (let e = recs_count rows (rows_axis rows cols maps ok) in let n = row_places in omega arith) in
          let e = recs_count rows (rows_axis rows cols maps ok) in
          let m = ok.as_many in
          omega (arith, b.0, e, m)

  pub filled_read : (d : BTreeMap ℕ Content) (row : ℕ) → row < length (placed_in V).rows →
      filter (λ p. is_some (held (slice_index_or maps (slice_index rows.recs row) d) (rec_number cols p))) (visible_places cols.marks) ≡ filled_places (placed_in V) row
  filled_read d row h =
      filter_same (λ p. is_some (held (slice_index_or maps (slice_index rows.recs row) d) (rec_number cols p))) (λ p. not (is_empty (cell_at (placed_in V) row p))) (visible_places cols.marks) same
      ∙ ap (λ (ms : List Bool). filter (λ p. not (is_empty (cell_at (placed_in V) row p))) (visible_places ms)) col_marks
    where
      same : (p : ℕ) → has_number (visible_places cols.marks) p ≡ true → is_some (held (slice_index_or maps (slice_index rows.recs row) d) (rec_number cols p)) ≡ not (is_empty (cell_at (placed_in V) row p))
      same p seen =
          let within : p < length (placed_in V).cols =
          let i = mark_there cols.marks p (has_visible cols.marks p seen) in
          let m = marks_count cols (cols_axis rows cols maps ok) in
          let n = col_places in
          omega (arith, i, m, n) in
          key_read d row h p within

  pub occupied_read : (d : BTreeMap ℕ Content) (row : ℕ) → row < length (placed_in V).rows →
      filter (λ p. is_some (held (slice_index_or maps (slice_index rows.recs row) d) (rec_number cols p))) (numbers_from 0 (length cols.slots)) ≡ occupied_places (placed_in V) row
  occupied_read d row h =
      filter_same (λ p. is_some (held (slice_index_or maps (slice_index rows.recs row) d) (rec_number cols p))) (λ p. not (is_empty (cell_at (placed_in V) row p))) (numbers_from 0 (length cols.slots))
      (λ p there. key_read d row h p (let b = has_below 0 (length cols.slots) p there in let n = col_places in omega (arith, b, n)))
      ∙ ap (λ (n : ℕ). filter (λ p. not (is_empty (cell_at (placed_in V) row p))) (numbers_from 0 n)) (sym col_places)

-- an effect done by positions is the position step
pub steps_done : (P : PlacedSheet) (e : Effect) (Q : PlacedSheet) → EffectFits (placed_size P) e → GridFits (placed_size P) P.cells → Q ≡ effect_on P e → StepsTo P e Q
steps_done P e Q fits inside done X ids formed new is =
    placed-step X e ids formed new
    (subst (λ (s : Size). EffectFits s e) (size_placed X) (subst (λ (R : PlacedSheet). EffectFits (placed_size R) e) (sym is) fits))
    (subst (λ (s : Size). GridFits s (placed X).cells) (size_placed X) (subst (λ (R : PlacedSheet). GridFits (placed_size R) R.cells) (sym is) inside))
    ∙ (ap (λ (R : PlacedSheet). effect_on R e) is ∙ sym done)

pub steps_after : {T E : Type 0} (result : Result T E) (P : PlacedSheet) (e : Effect) (Q : PlacedSheet) → EffectFits (placed_size P) e → GridFits (placed_size P) P.cells → OnOk result (Q ≡ effect_on P e) → OnOk result (StepsTo P e Q)
steps_after (Ok t) P e Q fits inside done = steps_done P e Q fits inside done
steps_after (Err f) P e Q fits inside done = done
