-- What holds of all that a sheet keeps, after each kind of effect.
use Rattle.std.proofs.Common.{◌≡◌, ℕ, zero, suc, ◌+◌, ◌<◌, ◌≤◌, ◌++◌, List, [], ◌∷◌, length, refl, ap, sym, ◌∙◌, subst}
use Rattle.std.specs.Prelude.{map, take, slice_index_or, unwrap_or, Result, Ok, Err, OnErr}
use Rattle.std.specs.BTreeMap.{BTreeMap, is_at}
use Rattle.std.specs.Map.{lookup}
use Rattle.std.specs.Ordering.{nat_cmp}
use Rattle.std.proofs.lemmas.List.{length-append}
use Rattle.std.proofs.lemmas.List.Edits.{length-insert}
use Rattle.marked_lines.specs.Moves.{IsPerm, MovesBelow}
use Rattle.sheet_ops.specs.declared.content.Content.{Content}
use Rattle.sheet_ops.specs.declared.content.Content.TheVariants as content
use Rattle.sheet_ops.specs.declared.content.Put.{Put}
use Rattle.sheet_grid.specs.Kept.{NumberedAxis, kept_of, kept_size, held, no_cells, cell_kept, line_added, recs_moved, IsSheet, IsTidy}
use Rattle.sheet_grid.specs.Rows.{puts_kept, AddsNoEmpty, AllFit}
use Rattle.sheet_grid.specs.Numbering.{IsAxis}
use Rattle.sheet_grid.proofs.MarkedLines.{marked, kept_marked, kept_col_marked}
use Rattle.sheet_grid.proofs.NumberedPuts.{kept_written}
use Rattle.sheet_grid.proofs.MovedRecords.{kept_moved}
use Rattle.sheet_grid.proofs.AddedLines.{kept_row_added, kept_col_added}

abbrev pub Maps : Type 0
Maps = List (BTreeMap ℕ Content)

pub empty_held : (m : BTreeMap ℕ Content) → m.entries ≡ [] → held m ≡ no_cells
empty_held m e = λ i col. lookup (is_at (nat_cmp col)) (e i)

-- a refused call left what is said of it, whatever it gives
pub refused : {T E P : Type 0} (r : Result T E) → P → OnErr r P
refused (Ok t) p = tt
refused (Err e) p = p

-- what a slice of a whole vector was written to
pub whole_front : {A : Type 0} (xs ys : List A) (n : ℕ) → length xs ≡ n → take n (xs ++ ys) ≡ xs
whole_front {A} xs ys n e = subst (λ (m : ℕ). take m (xs ++ ys) ≡ xs) e (front xs)
  where
    front : (xs : List A) → take (length xs) (xs ++ ys) ≡ xs
    front [] = refl
    front (x ∷ xs) = ap (λ (zs : List A). x ∷ zs) (front xs)

-- one map more, with nothing in it
held_more : (maps : Maps) (m : BTreeMap ℕ Content) → held m ≡ no_cells → (a : ℕ) → slice_index_or (map held (maps ++ m ∷ [])) a no_cells ≡ slice_index_or (map held maps) a no_cells
held_more [] m e zero = e
held_more [] m e (suc a) = refl
held_more (n ∷ maps) m e zero = refl
held_more (n ∷ maps) m e (suc a) = held_more maps m e a

cells_more : (maps : Maps) (m : BTreeMap ℕ Content) → held m ≡ no_cells → cell_kept (maps ++ m ∷ []) ≡ cell_kept maps
cells_more maps m e = λ i a b. unwrap_or (held_more maps m e a i b) content.Empty

-- maps that hold the same cells
pub cells_same : (old new : Maps) → map held new ≡ map held old → cell_kept new ≡ cell_kept old
cells_same old new e = λ i a b. unwrap_or (slice_index_or (e i) a no_cells b) content.Empty

module _ (rows cols : NumberedAxis) (maps : Maps) (ok : IsTidy rows cols maps) where
  pub rows_axis : IsAxis rows
  rows_axis = by_kept ok.kept
    where
      by_kept : IsSheet (kept_of rows cols maps) → IsAxis rows
      by_kept (rs, rr, cs, cr, all) = (rs, rr, all.rows)

  pub cols_axis : IsAxis cols
  cols_axis = by_kept ok.kept
    where
      by_kept : IsSheet (kept_of rows cols maps) → IsAxis cols
      by_kept (rs, rr, cs, cr, all) = (cs, cr, all.cols)

  pub no_col : (a b : ℕ) → length cols.slots ≤ b → cell_kept maps a b ≡ content.Empty
  no_col a b h = by_kept ok.kept
    where
      by_kept : IsSheet (kept_of rows cols maps) → cell_kept maps a b ≡ content.Empty
      by_kept (rs, rr, cs, cr, all) = all.no_col a b h

  pub no_row : (a b : ℕ) → length rows.slots ≤ a → cell_kept maps a b ≡ content.Empty
  no_row a b h = by_kept ok.kept
    where
      by_kept : IsSheet (kept_of rows cols maps) → cell_kept maps a b ≡ content.Empty
      by_kept (rs, rr, cs, cr, all) = all.no_row a b h

  pub tidy_written : (maps' : Maps) (nps : List Put) → AllFit (kept_size (kept_of rows cols maps)) nps → length maps' ≡ length maps → cell_kept maps' ≡ puts_kept (cell_kept maps) nps →
      AddsNoEmpty (map held maps) (map held maps') → IsTidy rows cols maps'
  tidy_written maps' nps fit same cells empties = record {
    kept = subst (λ (cs : ℕ → ℕ → Content). IsSheet (record { rows = rows; cols = cols; cells = cs })) (sym cells) (kept_written (kept_of rows cols maps) ok.kept nps fit);
    as_many = same ∙ ok.as_many;
    filled = λ a b h. ok.filled a b (empties a b h);
  }

  pub tidy_same : (maps' : Maps) → length maps' ≡ length maps → map held maps' ≡ map held maps → IsTidy rows cols maps'
  tidy_same maps' same back = record {
    kept = subst (λ (cs : ℕ → ℕ → Content). IsSheet (record { rows = rows; cols = cols; cells = cs })) (sym (cells_same maps maps' back)) ok.kept;
    as_many = same ∙ ok.as_many;
    filled = λ a b h. ok.filled a b ((λ i. slice_index_or (sym back i) a no_cells b) ∙ h);
  }

  pub tidy_moved : (moves : List (ℕ × ℕ)) → IsPerm moves → MovesBelow (length rows.slots) moves → IsTidy (recs_moved rows moves) cols maps
  tidy_moved moves perm below = record { kept = kept_moved (kept_of rows cols maps) ok.kept moves perm below; as_many = ok.as_many; filled = ok.filled }

  module _ (p : ℕ) where
    pub tidy_row_marked : p < length rows.slots → IsTidy (marked rows p) cols maps
    tidy_row_marked h = record { kept = kept_marked (kept_of rows cols maps) ok.kept p h; as_many = ok.as_many; filled = ok.filled }

    pub tidy_col_marked : p < length cols.slots → IsTidy rows (marked cols p) maps
    tidy_col_marked h = record { kept = kept_col_marked (kept_of rows cols maps) ok.kept p h; as_many = ok.as_many; filled = ok.filled }

    pub tidy_col_added : p ≤ length cols.slots → length cols.slots < 16000 → IsTidy rows (line_added cols p) maps
    tidy_col_added h room = record { kept = kept_col_added (kept_of rows cols maps) ok.kept p h room; as_many = ok.as_many; filled = ok.filled }

    pub tidy_row_added : p ≤ length rows.slots → length rows.slots < 16000 → (m : BTreeMap ℕ Content) → held m ≡ no_cells → IsTidy (line_added rows p) cols (maps ++ m ∷ [])
    tidy_row_added h room m empty = record {
      kept = subst (λ cells. IsSheet (record { rows = line_added rows p; cols = cols; cells = cells })) (sym (cells_more maps m empty)) (kept_row_added (kept_of rows cols maps) ok.kept p h room);
      as_many = length-append maps (m ∷ []) ∙ (ap (λ n. n + 1) ok.as_many ∙ sym (length-insert rows.slots p (length rows.slots) h));
      filled = λ a b j. ok.filled a b (sym (λ i. held_more maps m empty a i b) ∙ j);
    }
