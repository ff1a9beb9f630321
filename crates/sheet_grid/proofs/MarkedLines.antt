-- A line that is marked.
use Rattle.std.proofs.Common.{◌≡◌, ℕ, zero, suc, ◌<◌, Bool, true, false, cond, List, [], ◌∷◌, length, refl, ap, sym, ◌∙◌, arith}
use Rattle.std.specs.Prelude.{◌&&◌, ◌||◌, nat_eq, slice_index, slice_set}
use Rattle.std.proofs.lemmas.List.{length-map}
use Rattle.std.proofs.Math.ListN.{length-set}
use Rattle.sheet_ops.specs.declared.operation.Effect.TheVariants as effect
use Rattle.sheet_ops.specs.LineIds.{LineId, id_eq}
use Rattle.sheet_ops.specs.Lines.{AxisLine, rec_at, deleted}
use Rattle.sheet_ops.specs.Identity.{blank}
use Rattle.sheet_ops.specs.Placed.{placed, placed_size}
use Rattle.sheet_ops.specs.Effects.{effect_on}
use Rattle.sheet_ops.proofs.PlacedSteps.{placed-step}
use Rattle.sheet_grid.specs.Numbers.{mark_of, lines_of}
use Rattle.sheet_grid.specs.Kept.{NumberedAxis, KeptSheet, axis, content_meant, by_numbers, kept_size, IsKeptAxis, IsSheet}
use Rattle.sheet_ops.proofs.Ids.{same_number}
use Rattle.sheet_grid.proofs.Compared.{other_test, turned_test}
use Rattle.sheet_grid.proofs.InsertedNumbers.{Apart, numbered_apart}
use Rattle.sheet_grid.proofs.Meanings.{rec_there, length-lines_of}
use Rattle.sheet_grid.proofs.WellFormed.{kept_formed, kept_inside}

mark_set : (recs : List ℕ) (marks : List Bool) (p n : ℕ) → length marks ≡ length recs → p < length recs → Apart recs → mark_of recs (slice_set marks p true) n ≡ nat_eq (slice_index recs p) n || mark_of recs marks n
mark_set [] marks p n e h apart = absurd (omega arith)
mark_set (r ∷ recs) [] p n e h apart = absurd (omega arith)
mark_set (r ∷ recs) (m ∷ marks) zero n e h apart = by_test (nat_eq r n)
  where
    by_test : (t : Bool) → cond t true (mark_of recs marks n) ≡ t || cond t m (mark_of recs marks n)
    by_test true = refl
    by_test false = refl
mark_set (r ∷ recs) (m ∷ marks) (suc p) n e h apart =
    by_test (nat_eq r n) refl (mark_set recs marks p n (omega arith) (omega arith) (λ i j a b s. let k : suc i ≡ suc j = apart (suc i) (suc j) (omega arith) (omega arith) s in omega arith))
  where
    by_test : (t : Bool) → nat_eq r n ≡ t → mark_of recs (slice_set marks p true) n ≡ nat_eq (slice_index recs p) n || mark_of recs marks n →
        cond t m (mark_of recs (slice_set marks p true) n) ≡ nat_eq (slice_index recs p) n || cond t m (mark_of recs marks n)
    by_test false t rest = rest
    by_test true t rest =
        let here : r ≡ n = same_number r n t in
        let off : nat_eq (slice_index recs p) n ≡ false = other_test (slice_index recs p) n (λ s. let clash : 0 ≡ suc p = apart 0 (suc p) (omega arith) h (here ∙ sym s) in omega arith) in
        sym (ap (λ b. b || m) off)

and_or : (t a b : Bool) → t && (a || b) ≡ (t && a) || (t && b)
and_or true a b = refl
and_or false a b = refl

abbrev pub marked : NumberedAxis → ℕ → NumberedAxis
marked k p = record k { marks = slice_set k.marks p true }

axis_marked : (k : NumberedAxis) (sp rp : List ℕ) → IsKeptAxis k sp rp → (p : ℕ) → p < length k.slots → axis (marked k p) ≡ deleted (axis k) (rec_at (axis k) p)
axis_marked k sp rp ok p h = λ i. record {
  lines = lines_of k.slots k.recs;
  dead = λ id. dead_is id i;
}
  where
    within : p < length k.recs
    within = let e = ok.as_many in omega arith

    apart : Apart k.recs
    apart = numbered_apart k.recs rp ok.recs

    dead_is : (id : LineId) → nat_eq id.site 0 && mark_of k.recs (slice_set k.marks p true) id.number ≡ id_eq (rec_at (axis k) p) id || (nat_eq id.site 0 && mark_of k.recs k.marks id.number)
    dead_is id =
        ap (λ b. nat_eq id.site 0 && b) (mark_set k.recs k.marks p id.number ok.marked within apart)
        ∙ (and_or (nat_eq id.site 0) (nat_eq (slice_index k.recs p) id.number) (mark_of k.recs k.marks id.number)
        ∙ (ap (λ t. (t && nat_eq (slice_index k.recs p) id.number) || (nat_eq id.site 0 && mark_of k.recs k.marks id.number)) (turned_test id.site 0)
        ∙ ap (λ (a : LineId). id_eq a id || (nat_eq id.site 0 && mark_of k.recs k.marks id.number)) (sym (rec_there k.slots k.recs p ok.as_many h))))

-- the size by positions is how many lines ever came
pub size_kept : (k : KeptSheet) → IsSheet k → placed_size (placed (by_numbers k)) ≡ kept_size k
size_kept k (rs, rr, cs, cr, ok) = λ i. record {
  rows = (length-map (axis k.rows).lines (λ (l : AxisLine). (axis k.rows).dead l.rec) ∙ length-lines_of k.rows.slots k.rows.recs ok.rows.as_many) i;
  cols = (length-map (axis k.cols).lines (λ (l : AxisLine). (axis k.cols).dead l.rec) ∙ length-lines_of k.cols.slots k.cols.recs ok.cols.as_many) i;
}

pub kept_marked : (k : KeptSheet) → IsSheet k → (p : ℕ) → p < length k.rows.slots → IsSheet (record k { rows = marked k.rows p })
kept_marked k (rs, rr, cs, cr, ok) p h = (
  rs,
  rr,
  cs,
  cr,
  record {
    rows = record { slots = ok.rows.slots; recs = ok.rows.recs; as_many = ok.rows.as_many; marked = length-set k.rows.marks p true ∙ ok.rows.marked };
    cols = ok.cols;
    fits = ok.fits;
    no_row = ok.no_row;
    no_col = ok.no_col;
  },
)

-- the sheet by positions after a row was marked is what the deletion says
pub del_row_kept : (k : KeptSheet) → IsSheet k → (p : ℕ) → p < length k.rows.slots → placed (by_numbers (record k { rows = marked k.rows p })) ≡ effect_on (placed (by_numbers k)) (effect.DelRow p)
del_row_kept k (rs, rr, cs, cr, ok) p h =
    let f : p < length (axis k.rows).lines = let e = length-lines_of k.rows.slots k.rows.recs ok.rows.as_many in omega arith in
    (λ i. placed (record {
      rows = axis_marked k.rows rs rr ok.rows p h i;
      cols = axis k.cols;
      cells = λ a b. cond (nat_eq a.site 0 && nat_eq b.site 0) (content_meant (axis_marked k.rows rs rr ok.rows p h i) (axis k.cols) (k.cells a.number b.number)) blank;
    }))
    ∙ placed-step (by_numbers k) (effect.DelRow p) [] (kept_formed k rs rr cs cr ok) tt f (kept_inside k rs rr cs cr ok)

pub kept_col_marked : (k : KeptSheet) → IsSheet k → (p : ℕ) → p < length k.cols.slots → IsSheet (record k { cols = marked k.cols p })
kept_col_marked k (rs, rr, cs, cr, ok) p h = (
  rs,
  rr,
  cs,
  cr,
  record {
    rows = ok.rows;
    cols = record { slots = ok.cols.slots; recs = ok.cols.recs; as_many = ok.cols.as_many; marked = length-set k.cols.marks p true ∙ ok.cols.marked };
    fits = ok.fits;
    no_row = ok.no_row;
    no_col = ok.no_col;
  },
)

-- and after a column was marked
pub del_col_kept : (k : KeptSheet) → IsSheet k → (p : ℕ) → p < length k.cols.slots → placed (by_numbers (record k { cols = marked k.cols p })) ≡ effect_on (placed (by_numbers k)) (effect.DelCol p)
del_col_kept k (rs, rr, cs, cr, ok) p h =
    let f : p < length (axis k.cols).lines = let e = length-lines_of k.cols.slots k.cols.recs ok.cols.as_many in omega arith in
    (λ i. placed (record {
      rows = axis k.rows;
      cols = axis_marked k.cols cs cr ok.cols p h i;
      cells = λ a b. cond (nat_eq a.site 0 && nat_eq b.site 0) (content_meant (axis k.rows) (axis_marked k.cols cs cr ok.cols p h i) (k.cells a.number b.number)) blank;
    }))
    ∙ placed-step (by_numbers k) (effect.DelCol p) [] (kept_formed k rs rr cs cr ok) tt f (kept_inside k rs rr cs cr ok)
