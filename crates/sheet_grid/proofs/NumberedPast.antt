-- What an effect does by numbers is what it does by positions; no line gets another number, and no content but a written
-- one is touched.
use Rattle.std.proofs.Common.{◌≡◌, ℕ, zero, suc, ◌<◌, ◌≤◌, ◌++◌, true, false, List, [], ◌∷◌, length, refl, ap, sym, ◌∙◌, subst, arith}
use Rattle.std.specs.Prelude.{map, replicate, slice_index, slice_index_or, Result, Ok, Err, OnOk}
use Rattle.marked_lines.specs.Moves.{image, MovesBelow}
use Rattle.marked_lines.proofs.Permuting.{image_inside, get_or-permute, length-permuted_from}
use Rattle.std.proofs.Math.ListN.{length-set}
use Rattle.std.proofs.lemmas.List.{length-map}
use Rattle.std.proofs.lemmas.List.Edits.{length-insert}
use Rattle.ss_base.specs.declared.types.Size.{Size}
use Rattle.sheet_ops.specs.Lines.{AxisLine, opening_lines, opening_axis, marks}
use Rattle.sheet_ops.specs.Identity.{opened}
use Rattle.sheet_ops.specs.Chains.{size_past}
use Rattle.sheet_ops.specs.declared.content.Content.{Content}
use Rattle.sheet_ops.specs.declared.content.Content.TheVariants as content
use Rattle.sheet_ops.specs.declared.content.Put.{Put}
use Rattle.sheet_ops.specs.declared.operation.Effect.{Effect}
use Rattle.sheet_ops.specs.declared.operation.Effect.TheVariants as effect
use Rattle.sheet_ops.specs.Maps.{row_map, col_map}
use Rattle.sheet_ops.specs.Placed.{PlacedSheet, placed, placed_size}
use Rattle.sheet_ops.specs.Effects.{effect_on}
use Rattle.sheet_ops.specs.Fits.{EffectFits}
use Rattle.sheet_ops.proofs.Carried.{inserted_at}
use Rattle.sheet_grid.specs.Kept.{by_numbers, line_added, IsSheet}
use Rattle.sheet_grid.specs.Rows.{AllFit}
use Rattle.sheet_grid.specs.Numbering.{IsAxis, IsOrderedWrite, put_numbered}
use Rattle.sheet_grid.specs.Values.{NumberedSheet, IsNumberedSheet, WritesNothing, stored_at, kept_in, placed_in, numbered_size, numbered_past}
use Rattle.sheet_grid.proofs.Grids.{stored_puts}
use Rattle.sheet_grid.proofs.MarkedLines.{del_row_kept, del_col_kept}
use Rattle.sheet_grid.proofs.AddedLines.{ins_row_kept, ins_col_kept}
use Rattle.sheet_grid.proofs.MovedRecords.{move_kept}
use Rattle.sheet_grid.proofs.ToNumbers.{puts_numbered_fit}
use Rattle.sheet_grid.proofs.NumberedPuts.{AllFit-fit, write_kept}

-- ---- no stored content is touched by anything but a write
none_there : (count k : ℕ) → slice_index_or (replicate count content.Empty) k content.Empty ≡ content.Empty
none_there zero k = refl
none_there (suc count) zero = refl
none_there (suc count) (suc k) = none_there count k

row_more : (cells : List (List Content)) (count a b : ℕ) → stored_at (cells ++ replicate count content.Empty ∷ []) a b ≡ stored_at cells a b
row_more [] count zero b = none_there count b
row_more [] count (suc a) b = refl
row_more (row ∷ cells) count zero b = refl
row_more (row ∷ cells) count (suc a) b = row_more cells count a b

cell_more : (row : List Content) (b : ℕ) → slice_index_or (row ++ content.Empty ∷ []) b content.Empty ≡ slice_index_or row b content.Empty
cell_more [] zero = refl
cell_more [] (suc b) = refl
cell_more (c ∷ row) zero = refl
cell_more (c ∷ row) (suc b) = cell_more row b

col_more : (cells : List (List Content)) (a b : ℕ) → stored_at (map (λ row. row ++ content.Empty ∷ []) cells) a b ≡ stored_at cells a b
col_more [] a b = refl
col_more (row ∷ cells) zero b = cell_more row b
col_more (row ∷ cells) (suc a) b = col_more cells a b

pub stored_kept : (V : NumberedSheet) (e : Effect) → WritesNothing e → (rec col : ℕ) → stored_at (numbered_past V e).cells rec col ≡ stored_at V.cells rec col
stored_kept V (effect.Write ps) h rec col = absurd h
stored_kept V (effect.InsRow p) h rec col = row_more V.cells (length V.cols.slots) rec col
stored_kept V (effect.InsCol p) h rec col = col_more V.cells rec col
stored_kept V (effect.DelRow p) h rec col = refl
stored_kept V (effect.DelCol p) h rec col = refl
stored_kept V (effect.Move moves) h rec col = refl

-- ---- each record keeps its number
module _ (V : NumberedSheet) (whole : IsNumberedSheet V) where
  rows_many : length V.rows.recs ≡ length V.rows.slots
  rows_many = by_kept whole.kept
    where
      by_kept : IsSheet (kept_in V) → length V.rows.recs ≡ length V.rows.slots
      by_kept (rs, rr, cs, cr, ok) = ok.rows.as_many

  cols_many : length V.cols.recs ≡ length V.cols.slots
  cols_many = by_kept whole.kept
    where
      by_kept : IsSheet (kept_in V) → length V.cols.recs ≡ length V.cols.slots
      by_kept (rs, rr, cs, cr, ok) = ok.cols.as_many

  pub row_recs_kept : (e : Effect) → EffectFits (numbered_size V) e → (p : ℕ) → p < length V.rows.recs → slice_index (numbered_past V e).rows.recs ((row_map e).rec p) ≡ slice_index V.rows.recs p
  row_recs_kept (effect.Write ps) f p h = refl
  row_recs_kept (effect.InsRow q) f p h =
      let g : q ≤ length V.rows.slots = f in
      let e = rows_many in
      inserted_at V.rows.recs q (length V.rows.slots) 0 p (omega (arith, g, e))
  row_recs_kept (effect.InsCol q) f p h = refl
  row_recs_kept (effect.DelRow q) f p h = refl
  row_recs_kept (effect.DelCol q) f p h = refl
  row_recs_kept (effect.Move moves) f p h =
      let below : MovesBelow (length V.rows.recs) moves = subst (λ n. MovesBelow n moves) (sym rows_many) f.1 in
      get_or-permute moves V.rows.recs (image moves p) 0 below (image_inside moves f.0 (length V.rows.recs) p below h) ∙ ap (slice_index V.rows.recs) (f.0.back p)

  pub col_recs_kept : (e : Effect) → EffectFits (numbered_size V) e → (p : ℕ) → p < length V.cols.recs → slice_index (numbered_past V e).cols.recs ((col_map e).rec p) ≡ slice_index V.cols.recs p
  col_recs_kept (effect.Write ps) f p h = refl
  col_recs_kept (effect.InsRow q) f p h = refl
  col_recs_kept (effect.InsCol q) f p h =
      let g : q ≤ length V.cols.slots = f in
      let e = cols_many in
      inserted_at V.cols.recs q (length V.cols.slots) 0 p (omega (arith, g, e))
  col_recs_kept (effect.DelRow q) f p h = refl
  col_recs_kept (effect.DelCol q) f p h = refl
  col_recs_kept (effect.Move moves) f p h = refl

pub col_slots_kept : (V : NumberedSheet) (e : Effect) → EffectFits (numbered_size V) e → (p : ℕ) → slice_index (numbered_past V e).cols.slots ((col_map e).slot p) ≡ slice_index V.cols.slots p
col_slots_kept V (effect.Write ps) f p = refl
col_slots_kept V (effect.InsRow q) f p = refl
col_slots_kept V (effect.InsCol q) f p = inserted_at V.cols.slots q (length V.cols.slots) 0 p f
col_slots_kept V (effect.DelRow q) f p = refl
col_slots_kept V (effect.DelCol q) f p = refl
col_slots_kept V (effect.Move moves) f p = refl

-- ---- by numbers and by positions
pub placed_past : (V : NumberedSheet) (e : Effect) → IsNumberedSheet V → EffectFits (numbered_size V) e → IsOrderedWrite e → placed_in (numbered_past V e) ≡ effect_on (placed_in V) e
placed_past V (effect.Write ps) whole f ordered = by_kept whole.kept
  where
    by_kept : IsSheet (kept_in V) → placed_in (numbered_past V (effect.Write ps)) ≡ effect_on (placed_in V) (effect.Write ps)
    by_kept (rs, rr, cs, cr, ok) =
        let nps : List Put = map (put_numbered V.rows V.cols) ps in
        let rows : IsAxis V.rows = (rs, rr, ok.rows) in
        let cols : IsAxis V.cols = (cs, cr, ok.cols) in
        let fit : AllFit (numbered_size V) nps = puts_numbered_fit V.rows V.cols rows cols ps (AllFit-fit (numbered_size V) ps f.1) in
        ap (λ (cells : ℕ → ℕ → Content). placed (by_numbers (record { rows = V.rows; cols = V.cols; cells = cells }))) (λ i a b. stored_puts (numbered_size V) V.cells whole.shaped nps fit a b i)
        ∙ write_kept (kept_in V) rs rr cs cr ok ps f ordered
placed_past V (effect.InsRow p) whole f ordered =
    ap (λ (cells : ℕ → ℕ → Content). placed (by_numbers (record { rows = line_added V.rows p; cols = V.cols; cells = cells }))) (λ i a b. row_more V.cells (length V.cols.slots) a b i)
    ∙ ins_row_kept (kept_in V) whole.kept p f
placed_past V (effect.InsCol p) whole f ordered =
    ap (λ (cells : ℕ → ℕ → Content). placed (by_numbers (record { rows = V.rows; cols = line_added V.cols p; cells = cells }))) (λ i a b. col_more V.cells a b i)
    ∙ ins_col_kept (kept_in V) whole.kept p f
placed_past V (effect.DelRow p) whole f ordered = del_row_kept (kept_in V) whole.kept p f
placed_past V (effect.DelCol p) whole f ordered = del_col_kept (kept_in V) whole.kept p f
placed_past V (effect.Move moves) whole f ordered = move_kept (kept_in V) whole.kept moves f.0 f.1

pub placed_after : {T E : Type 0} (result : Result T E) (V W : NumberedSheet) (e : Effect) → IsNumberedSheet V → EffectFits (numbered_size V) e → OnOk result (W ≡ numbered_past V e) → OnOk result (IsOrderedWrite e) →
    OnOk result (placed_in W ≡ effect_on (placed_in V) e)
placed_after (Ok t) V W e whole f done ordered = ap placed_in done ∙ placed_past V e whole f ordered
placed_after (Err x) V W e whole f done ordered = tt

-- ---- sizes
size_on : (P : PlacedSheet) (e : Effect) → EffectFits (placed_size P) e → placed_size (effect_on P e) ≡ size_past (placed_size P) e
size_on P (effect.Write ps) f = refl
size_on P (effect.InsRow p) f = λ i. record { rows = length-insert P.rows p false f i; cols = length P.cols }
size_on P (effect.InsCol p) f = λ i. record { rows = length P.rows; cols = length-insert P.cols p false f i }
size_on P (effect.DelRow p) f = λ i. record { rows = length-set P.rows p true i; cols = length P.cols }
size_on P (effect.DelCol p) f = λ i. record { rows = length P.rows; cols = length-set P.cols p true i }
size_on P (effect.Move moves) f = λ i. record { rows = length-permuted_from moves P.rows 0 P.rows i; cols = length P.cols }

pub sized_after : {T E : Type 0} (result : Result T E) (P : PlacedSheet) (e : Effect) (Q : PlacedSheet) → EffectFits (placed_size P) e → OnOk result (Q ≡ effect_on P e) → OnOk result (placed_size Q ≡ size_past (placed_size P) e)
sized_after (Ok t) P e Q fits done = ap placed_size done ∙ size_on P e fits
sized_after (Err x) P e Q fits done = tt

pub opened_size : (size : Size) → placed_size (placed (opened size)) ≡ size
opened_size size = λ i. record { rows = long size.rows i; cols = long size.cols i }
  where
    count : (first n : ℕ) → length (opening_lines first n) ≡ n
    count first zero = refl
    count first (suc n) = ap suc (count (suc first) n)

    long : (n : ℕ) → length (marks (opening_axis n)) ≡ n
    long n = length-map (opening_lines 0 n) (λ (l : AxisLine). (opening_axis n).dead l.rec) ∙ count 0 n
