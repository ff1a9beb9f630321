-- A line more, and what holds of all that is kept after it.
use Rattle.std.proofs.Common.{◌≡◌, ℕ, ◌+◌, ◌<◌, ◌≤◌, ◌≢◌, ◌++◌, true, false, List, [], ◌∷◌, length, refl, ap, sym, ◌∙◌, subst, arith, All}
use Rattle.std.specs.Prelude.{◌&&◌, nat_eq, nat_le, map, insert}
use Rattle.std.proofs.lemmas.Bool.Decides.{nat_tests}
use Rattle.std.proofs.lemmas.List.Edits.{length-insert}
use Rattle.marked_lines.specs.Moves.{after_insertion}
use Rattle.ss_base.specs.declared.types.Size.{Size}
use Rattle.sheet_ops.specs.declared.content.Content.{Content}
use Rattle.sheet_ops.specs.declared.content.Content.TheVariants as content
use Rattle.sheet_ops.specs.declared.operation.Effect.TheVariants as effect
use Rattle.sheet_ops.specs.LineIds.{opening_id}
use Rattle.sheet_ops.specs.Lines.{inserted}
use Rattle.sheet_ops.specs.Maps.{past_insertion}
use Rattle.sheet_ops.specs.Placed.{placed}
use Rattle.sheet_ops.specs.Fits.{CellFits, RangeFits, ContentFits, IsNewFor}
use Rattle.sheet_ops.specs.Effects.{effect_on}
use Rattle.sheet_ops.proofs.Renamed.{references_weaker}
use Rattle.sheet_ops.proofs.Convergence.{rows_carried, cols_carried}
use Rattle.sheet_ops.proofs.PlacedSteps.{placed-step}
use Rattle.sheet_grid.specs.Kept.{NumberedAxis, KeptSheet, axis, by_numbers, kept_size, line_added, IsKeptAxis, IsSheet}
use Rattle.sheet_grid.proofs.InsertedNumbers.{numbered_inserted, axis_inserted}
use Rattle.sheet_grid.proofs.Meanings.{length-lines_of}
use Rattle.sheet_grid.proofs.WellFormed.{numbers_below, axis_new, slot_found, kept_formed, kept_inside, nothing}
use Rattle.sheet_grid.proofs.SlotOrders.{order_carried, sheet_carried}

pub same_order : (p a b : ℕ) → nat_le (after_insertion p a) (after_insertion p b) ≡ nat_le a b
same_order p a b = grind (arith, nat_tests)

-- the sheet by positions after a row more is what the insertion says
pub ins_row_kept : (k : KeptSheet) → IsSheet k → (p : ℕ) → p ≤ length k.rows.slots → placed (by_numbers (record k { rows = line_added k.rows p })) ≡ effect_on (placed (by_numbers k)) (effect.InsRow p)
ins_row_kept k (rs, rr, cs, cr, ok) p h =
    let n = length k.rows.slots in
    let f : p ≤ length (axis k.rows).lines = let e = length-lines_of k.rows.slots k.rows.recs ok.rows.as_many in omega arith in
    let new : IsNewFor (effect.InsRow p) (by_numbers k) (opening_id n ∷ []) =
    (axis_new k.rows rs rr ok.rows, λ b. nothing k rs rr cs cr ok (true && nat_eq b.site 0) (k.cells n b.number) (ok.no_row n b.number (omega arith))) in
    let carried = rows_carried (by_numbers k) (opening_id n ∷ []) (kept_formed k rs rr cs cr ok) (effect.InsRow p) new f in
    ap placed (sheet_carried k (inserted (axis k.rows) p (opening_id n)) (axis k.cols) ok.fits
    (order_carried (axis k.rows) (inserted (axis k.rows) p (opening_id n)) (past_insertion p) n carried (slot_found k.rows rs rr ok.rows) (same_order p))
    (λ a b i j. refl) (line_added k.rows p) k.cols
    (axis_inserted k.rows.slots k.rows.recs k.rows.marks p n ok.rows.as_many ok.rows.marked h (subst (λ m. All (λ r. r ≢ m) k.rows.recs) ok.rows.as_many (numbers_below k.rows.recs rr ok.rows.recs)))
    refl)
    ∙ placed-step (by_numbers k) (effect.InsRow p) (opening_id n ∷ []) (kept_formed k rs rr cs cr ok) new f (kept_inside k rs rr cs cr ok)

-- and after a column more
pub ins_col_kept : (k : KeptSheet) → IsSheet k → (p : ℕ) → p ≤ length k.cols.slots → placed (by_numbers (record k { cols = line_added k.cols p })) ≡ effect_on (placed (by_numbers k)) (effect.InsCol p)
ins_col_kept k (rs, rr, cs, cr, ok) p h =
    let n = length k.cols.slots in
    let f : p ≤ length (axis k.cols).lines = let e = length-lines_of k.cols.slots k.cols.recs ok.cols.as_many in omega arith in
    let new : IsNewFor (effect.InsCol p) (by_numbers k) (opening_id n ∷ []) =
    (axis_new k.cols cs cr ok.cols, λ a. nothing k rs rr cs cr ok (nat_eq a.site 0 && true) (k.cells a.number n) (ok.no_col a.number n (omega arith))) in
    let carried = cols_carried (by_numbers k) (opening_id n ∷ []) (kept_formed k rs rr cs cr ok) (effect.InsCol p) new f in
    ap placed (sheet_carried k (axis k.rows) (inserted (axis k.cols) p (opening_id n)) ok.fits (λ a b i j. refl)
    (order_carried (axis k.cols) (inserted (axis k.cols) p (opening_id n)) (past_insertion p) n carried (slot_found k.cols cs cr ok.cols) (same_order p))
    k.rows (line_added k.cols p) refl
    (axis_inserted k.cols.slots k.cols.recs k.cols.marks p n ok.cols.as_many ok.cols.marked h (subst (λ m. All (λ r. r ≢ m) k.cols.recs) ok.cols.as_many (numbers_below k.cols.recs cr ok.cols.recs))))
    ∙ placed-step (by_numbers k) (effect.InsCol p) (opening_id n ∷ []) (kept_formed k rs rr cs cr ok) new f (kept_inside k rs rr cs cr ok)

-- ---- what holds of all that is kept
pub kept_line_added : (k : NumberedAxis) (sp rp : List ℕ) → IsKeptAxis k sp rp → (p : ℕ) → p ≤ length k.slots → length k.slots < 16000 →
    IsKeptAxis (line_added k p) (map (after_insertion p) sp ++ p ∷ []) (map (after_insertion p) rp ++ p ∷ [])
kept_line_added k sp rp ok p h room = record {
  slots = numbered_inserted k.slots sp ok.slots p (length k.slots) h room refl;
  recs = numbered_inserted k.recs rp ok.recs p (length k.slots) h' (let e = ok.as_many in omega arith) (sym ok.as_many);
  as_many = more k.recs (length k.slots) h' ∙ (ap suc' ok.as_many ∙ sym (more k.slots (length k.slots) h));
  marked = length-insert k.marks p false (let e = ok.marked in omega arith) ∙ (ap suc' ok.marked ∙ sym (more k.recs (length k.slots) h'));
}
  where
    suc' : ℕ → ℕ
    suc' n = n + 1

    h' : p ≤ length k.recs
    h' = let e = ok.as_many in omega arith

    more : (xs : List ℕ) (x : ℕ) → p ≤ length xs → length (insert xs p x) ≡ length xs + 1
    more xs x j = length-insert xs p x j

abbrev pub IsWithin : Size → Size → Type 0
IsWithin s t = (s.rows ≤ t.rows) × (s.cols ≤ t.cols)

pub content_larger : (s t : Size) → IsWithin s t → (c : Content) → ContentFits s c → ContentFits t c
content_larger s t w content.Empty f = tt
content_larger s t w (content.Num z) f = tt
content_larger s t w (content.Text x) f = tt
content_larger s t w (content.Formula x) f =
    references_weaker (CellFits s) (RangeFits s) (CellFits t) (RangeFits t)
    (λ c g. (larger c.row s.rows t.rows g.0 w.0, larger c.col s.cols t.cols g.1 w.1))
    (λ r g. ((larger r.top s.rows t.rows g.0.0 w.0, larger r.left s.cols t.cols g.0.1 w.1), (larger r.bottom s.rows t.rows g.1.0 w.0, larger r.right s.cols t.cols g.1.1 w.1))) x f
  where
    larger : (a m n : ℕ) → a < m → m ≤ n → a < n
    larger a m n h j = omega arith

pub kept_row_added : (k : KeptSheet) → IsSheet k → (p : ℕ) → p ≤ length k.rows.slots → length k.rows.slots < 16000 → IsSheet (record k { rows = line_added k.rows p })
kept_row_added k (rs, rr, cs, cr, ok) p h room =
    let long = length-insert k.rows.slots p (length k.rows.slots) h in (
      map (after_insertion p) rs ++ p ∷ [],
      map (after_insertion p) rr ++ p ∷ [],
      cs,
      cr,
      record {
        rows = kept_line_added k.rows rs rr ok.rows p h room;
        cols = ok.cols;
        fits = λ a b. content_larger (kept_size k) (kept_size (record k { rows = line_added k.rows p })) (omega (arith, long), omega arith) (k.cells a b) (ok.fits a b);
        no_row = λ a b j. ok.no_row a b (omega (arith, long, j));
        no_col = ok.no_col;
      },
    )

pub kept_col_added : (k : KeptSheet) → IsSheet k → (p : ℕ) → p ≤ length k.cols.slots → length k.cols.slots < 16000 → IsSheet (record k { cols = line_added k.cols p })
kept_col_added k (rs, rr, cs, cr, ok) p h room =
    let long = length-insert k.cols.slots p (length k.cols.slots) h in (
      rs,
      rr,
      map (after_insertion p) cs ++ p ∷ [],
      map (after_insertion p) cr ++ p ∷ [],
      record {
        rows = ok.rows;
        cols = kept_line_added k.cols cs cr ok.cols p h room;
        fits = λ a b. content_larger (kept_size k) (kept_size (record k { cols = line_added k.cols p })) (omega arith, omega (arith, long)) (k.cells a b) (ok.fits a b);
        no_row = ok.no_row;
        no_col = λ a b j. ok.no_col a b (omega (arith, long, j));
      },
    )
