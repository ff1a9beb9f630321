-- The value that contracts see of what a sheet keeps, before and after each kind of effect.
use Rattle.std.proofs.Common.{◌≡◌, ℕ, ◌+◌, ◌<◌, ◌≤◌, List, [], ◌∷◌, ◌++◌, length, ap, sym, ◌∙◌, subst, arith, inl, inr}
use Rattle.std.specs.Prelude.{◌⊎◌, map, slice_index_or, unwrap_or, Option, Result, Ok, Err, OnOk, OnErr}
use Rattle.std.specs.BTreeMap.{BTreeMap}
use Rattle.std.proofs.lemmas.Bool.{cases_lt}
use Rattle.std.proofs.lemmas.List.Edits.{length-insert}
use Rattle.marked_lines.specs.Moves.{IsPerm, MovesBelow}
use Rattle.ss_base.specs.declared.types.Size.{Size}
use Rattle.sheet_ops.specs.declared.content.Content.{Content}
use Rattle.sheet_ops.specs.declared.content.Content.TheVariants as content
use Rattle.sheet_ops.specs.declared.content.Put.{Put}
use Rattle.sheet_ops.specs.declared.operation.Effect.TheVariants as effect
use Rattle.sheet_ops.specs.Effects.{cells_written}
use Rattle.sheet_ops.specs.Fits.{EffectFits}
use Rattle.sheet_ops.specs.Placed.{placed}
use Rattle.sheet_grid.specs.Kept.{NumberedAxis, KeptSheet, by_numbers, kept_of, kept_size, IsSheet, IsTidy, held, no_cells, cell_kept, line_added, recs_moved}
use Rattle.sheet_grid.specs.Rows.{puts_kept, AddsNoEmpty, AllFit}
use Rattle.sheet_grid.specs.Numbering.{put_numbered}
use Rattle.sheet_grid.specs.Values.{NumberedSheet, stored_at, kept_in, placed_in, numbered_size, grid_of, numbered_sheet_of, IsShaped, IsNumberedSheet, numbered_past}
use Rattle.sheet_grid.proofs.StoredCells.{length-held}
use Rattle.sheet_grid.proofs.Grids.{same_grids, shape_puts, stored_puts, content_at, past_end, row_at, no_row_at, shape_grid, grid_row_more, grid_col_more}
use Rattle.sheet_grid.proofs.MarkedLines.{marked}
use Rattle.sheet_grid.proofs.ToNumbers.{puts_numbered_fit}
use Rattle.sheet_grid.proofs.NumberedPuts.{AllFit-fit}
use Rattle.sheet_grid.proofs.TidySheets.{Maps, rows_axis, cols_axis, no_row, no_col, tidy_written, tidy_same, tidy_moved, tidy_row_marked, tidy_col_marked, tidy_row_added, tidy_col_added}

module _ (rows cols : NumberedAxis) (maps : Maps) (ok : IsTidy rows cols maps) where
  rows_long : length (map held maps) ≡ length rows.slots
  rows_long = length-held maps ∙ ok.as_many

  pub stored_is : (a b : ℕ) → stored_at (numbered_sheet_of rows cols maps).cells a b ≡ cell_kept maps a b
  stored_is a b = by_sides (cases_lt a (length rows.slots)) (cases_lt b (length cols.slots))
    where
      by_sides : ((a < length rows.slots) ⊎ (length rows.slots ≤ a)) → ((b < length cols.slots) ⊎ (length cols.slots ≤ b)) → stored_at (numbered_sheet_of rows cols maps).cells a b ≡ cell_kept maps a b
      by_sides (inr h) c = ap (λ (r : List Content). slice_index_or r b content.Empty) (no_row_at (length cols.slots) (map held maps) a (let l = rows_long in omega arith)) ∙ sym (no_row rows cols maps ok a b h)
      by_sides (inl h) (inr j) =
          ap (λ (r : List Content). slice_index_or r b content.Empty) (row_at (length cols.slots) (map held maps) a (let l = rows_long in omega arith))
          ∙ (past_end (slice_index_or (map held maps) a no_cells) 0 (length cols.slots) b j ∙ sym (no_col rows cols maps ok a b j))
      by_sides (inl h) (inl j) =
          ap (λ (r : List Content). slice_index_or r b content.Empty) (row_at (length cols.slots) (map held maps) a (let l = rows_long in omega arith))
          ∙ (content_at (slice_index_or (map held maps) a no_cells) 0 (length cols.slots) b j
          ∙ ap (λ (k : ℕ). unwrap_or (slice_index_or (map held maps) a no_cells k) content.Empty) (let z : 0 + b ≡ b = omega arith in z))

  -- so what is said of all that is kept is said of the value
  pub value_is : kept_in (numbered_sheet_of rows cols maps) ≡ kept_of rows cols maps
  value_is = λ i. record { rows = rows; cols = cols; cells = λ a b. stored_is a b i }

  value_shaped : IsShaped (length rows.slots) (length cols.slots) (numbered_sheet_of rows cols maps).cells
  value_shaped = subst (λ (n : ℕ). IsShaped n (length cols.slots) (numbered_sheet_of rows cols maps).cells) rows_long (shape_grid (length cols.slots) (map held maps))

  value_whole : IsNumberedSheet (numbered_sheet_of rows cols maps)
  value_whole = record { kept = subst IsSheet (sym value_is) ok.kept; shaped = value_shaped }

-- the value of the same lines with cells written
value_written : (rows cols : NumberedAxis) (maps maps' : Maps) → IsTidy rows cols maps → IsTidy rows cols maps' → (nps : List Put) → AllFit (kept_size (kept_of rows cols maps)) nps → cell_kept maps' ≡ puts_kept (cell_kept maps) nps →
    (numbered_sheet_of rows cols maps').cells ≡ cells_written (numbered_sheet_of rows cols maps).cells nps
value_written rows cols maps maps' ok ok' nps fit cells =
    let size : Size = kept_size (kept_of rows cols maps) in
    let shaped = value_shaped rows cols maps ok in
    same_grids (length rows.slots) (length cols.slots) (numbered_sheet_of rows cols maps').cells (cells_written (numbered_sheet_of rows cols maps).cells nps) (value_shaped rows cols maps' ok')
    (shape_puts size (numbered_sheet_of rows cols maps).cells shaped nps fit)
    (λ a b. stored_is rows cols maps' ok' a b
    ∙ ((λ i. cells i a b)
    ∙ (ap (λ (cs : ℕ → ℕ → Content). puts_kept cs nps a b) (λ i c d. sym (stored_is rows cols maps ok c d) i)
    ∙ sym (stored_puts size (numbered_sheet_of rows cols maps).cells shaped nps fit a b))))

module _ (rows cols : NumberedAxis) (maps : Maps) (ok : IsTidy rows cols maps) (V : NumberedSheet) (is : numbered_sheet_of rows cols maps ≡ V) where
  pub whole : IsNumberedSheet V
  whole = subst IsNumberedSheet is (value_whole rows cols maps ok)

  -- the sheet by positions of all that is kept
  pub placed_is : placed (by_numbers (kept_of rows cols maps)) ≡ placed_in V
  placed_is = ap (λ (k : KeptSheet). placed (by_numbers k)) (sym (value_is rows cols maps ok)) ∙ ap placed_in is

  row_count : length V.rows.slots ≡ length rows.slots
  row_count = ap (λ (W : NumberedSheet). length W.rows.slots) (sym is)

  col_count : length V.cols.slots ≡ length cols.slots
  col_count = ap (λ (W : NumberedSheet). length W.cols.slots) (sym is)

  -- what is written by numbers is inside
  pub puts_fit : (ps : List Put) → EffectFits (numbered_size V) (effect.Write ps) → AllFit (record { rows = length rows.slots; cols = length cols.slots }) ps
  puts_fit ps f = AllFit-fit (kept_size (kept_of rows cols maps)) ps (subst (λ (W : NumberedSheet). EffectFits (numbered_size W) (effect.Write ps)) (sym is) f).1

  pub numbered_fit : (ps nps : List Put) → EffectFits (numbered_size V) (effect.Write ps) → nps ≡ map (put_numbered rows cols) ps → AllFit (record { rows = length rows.slots; cols = length cols.slots }) nps
  numbered_fit ps nps f e =
      subst (λ (qs : List Put). AllFit (kept_size (kept_of rows cols maps)) qs) (sym e) (puts_numbered_fit rows cols (rows_axis rows cols maps ok) (cols_axis rows cols maps ok) ps (puts_fit ps f))

  -- ---- for each kind what holds of all that is kept, and the value
  pub written : {T E : Type 0} (result : Result T E) (maps' : Maps) (ps nps : List Put) → EffectFits (numbered_size V) (effect.Write ps) → nps ≡ map (put_numbered rows cols) ps →
      length maps' ≡ length maps → OnOk result (cell_kept maps' ≡ puts_kept (cell_kept maps) nps) → OnOk result (AddsNoEmpty (map held maps) (map held maps')) → OnErr result (map held maps' ≡ map held maps) →
      IsTidy rows cols maps' × OnOk result (numbered_sheet_of rows cols maps' ≡ numbered_past V (effect.Write ps)) × OnErr result (numbered_sheet_of rows cols maps' ≡ V)
  written (Ok t) maps' ps nps f e same cells empties back =
      let fit = numbered_fit ps nps f e in
      let tidy = tidy_written rows cols maps ok maps' nps fit same cells empties in (
        tidy,
        (λ i. record { rows = rows; cols = cols; cells = value_written rows cols maps maps' ok tidy nps fit cells i })
            ∙ ((λ i. record { rows = rows; cols = cols; cells = cells_written (numbered_sheet_of rows cols maps).cells (e i) }) ∙ ap (λ (W : NumberedSheet). numbered_past W (effect.Write ps)) is),
        tt,
      )
  written (Err x) maps' ps nps f e same cells empties back = (
    tidy_same rows cols maps ok maps' same back,
    tt,
    (λ i. record { rows = rows; cols = cols; cells = grid_of (length cols.slots) (back i) }) ∙ is,
  )

  -- a copy holds the same cells
  pub copied : (rows' cols' : NumberedAxis) (maps' : Maps) → rows' ≡ rows → cols' ≡ cols → map held maps' ≡ map held maps → IsTidy rows' cols' maps' × (numbered_sheet_of rows' cols' maps' ≡ V)
  copied rows' cols' maps' r c e = (
    subst (λ (k : NumberedAxis). IsTidy k cols' maps') (sym r) (subst (λ (k : NumberedAxis). IsTidy rows k maps') (sym c)
        (tidy_same rows cols maps ok maps' (sym (length-held maps') ∙ (ap (λ (hs : List (ℕ → Option Content)). length hs) e ∙ length-held maps)) e)),
    (λ i. record { rows = r i; cols = c i; cells = grid_of (length (c i).slots) (e i) }) ∙ is,
  )

  pub rows_moved : (moves : List (ℕ × ℕ)) → IsPerm moves → MovesBelow (length V.rows.slots) moves → (rows' : NumberedAxis) → rows' ≡ recs_moved rows moves →
      IsTidy rows' cols maps × (numbered_sheet_of rows' cols maps ≡ numbered_past V (effect.Move moves))
  rows_moved moves perm below rows' e = (
    subst (λ (r : NumberedAxis). IsTidy r cols maps) (sym e) (tidy_moved rows cols maps ok moves perm (subst (λ n. MovesBelow n moves) row_count below)),
    ap (λ (r : NumberedAxis). numbered_sheet_of r cols maps) e ∙ ap (λ (W : NumberedSheet). numbered_past W (effect.Move moves)) is,
  )

  module _ (p : ℕ) where
    pub row_marked : p < length V.rows.slots → (rows' : NumberedAxis) → rows' ≡ marked rows p → IsTidy rows' cols maps × (numbered_sheet_of rows' cols maps ≡ numbered_past V (effect.DelRow p))
    row_marked h rows' e = (
      subst (λ (r : NumberedAxis). IsTidy r cols maps) (sym e) (tidy_row_marked rows cols maps ok p (omega (arith, h, row_count))),
      ap (λ (r : NumberedAxis). numbered_sheet_of r cols maps) e ∙ ap (λ (W : NumberedSheet). numbered_past W (effect.DelRow p)) is,
    )

    pub col_marked : p < length V.cols.slots → (cols' : NumberedAxis) → cols' ≡ marked cols p → IsTidy rows cols' maps × (numbered_sheet_of rows cols' maps ≡ numbered_past V (effect.DelCol p))
    col_marked h cols' e = (
      subst (λ (r : NumberedAxis). IsTidy rows r maps) (sym e) (tidy_col_marked rows cols maps ok p (omega (arith, h, col_count))),
      ap (λ (r : NumberedAxis). numbered_sheet_of rows r maps) e ∙ ap (λ (W : NumberedSheet). numbered_past W (effect.DelCol p)) is,
    )

    pub col_inserted : p ≤ length V.cols.slots → length V.cols.slots < 16000 → (cols' : NumberedAxis) → cols' ≡ line_added cols p → IsTidy rows cols' maps × (numbered_sheet_of rows cols' maps ≡ numbered_past V (effect.InsCol p))
    col_inserted h room cols' e =
        let h' : p ≤ length cols.slots = omega (arith, h, col_count) in (
          subst (λ (r : NumberedAxis). IsTidy rows r maps) (sym e) (tidy_col_added rows cols maps ok p h' (omega (arith, room, col_count))),
          ap (λ (r : NumberedAxis). numbered_sheet_of rows r maps) e
              ∙ ((λ i. record {
                rows = rows;
                cols = line_added cols p;
                cells = (ap (λ (n : ℕ). grid_of n (map held maps)) (length-insert cols.slots p (length cols.slots) h')
                    ∙ grid_col_more (length cols.slots) (map held maps) (λ a. no_col rows cols maps ok a (length cols.slots) (let z : length cols.slots ≤ length cols.slots = omega arith in z))) i;
              })
              ∙ ap (λ (W : NumberedSheet). numbered_past W (effect.InsCol p)) is),
        )

    pub row_inserted : p ≤ length V.rows.slots → length V.rows.slots < 16000 → (rows' : NumberedAxis) (maps' : Maps) (m : BTreeMap ℕ Content) → rows' ≡ line_added rows p → maps' ≡ maps ++ m ∷ [] → held m ≡ no_cells →
        IsTidy rows' cols maps' × (numbered_sheet_of rows' cols maps' ≡ numbered_past V (effect.InsRow p))
    row_inserted h room rows' maps' m e f empty = (
      subst (λ (r : NumberedAxis). IsTidy r cols maps') (sym e) (subst (λ (ms : Maps). IsTidy (line_added rows p) cols ms) (sym f)
          (tidy_row_added rows cols maps ok p (omega (arith, h, row_count)) (omega (arith, room, row_count)) m empty)),
      (λ i. numbered_sheet_of (e i) cols (f i))
          ∙ ((λ i. record { rows = line_added rows p; cols = cols; cells = grid_row_more (length cols.slots) maps m empty i }) ∙ ap (λ (W : NumberedSheet). numbered_past W (effect.InsRow p)) is),
    )
