-- Records that move.
use Rattle.std.proofs.Common.{◌≡◌, ℕ, zero, suc, ◌<◌, ◌≤◌, ◌≢◌, Bool, false, cond, List, [], ◌∷◌, length, refl, ap, sym, ◌∙◌, subst, arith, All, inl, inr}
use Rattle.std.specs.Prelude.{◌⊎◌, ◌&&◌, nat_eq, map, slice_index, slice_index_or}
use Rattle.std.proofs.lemmas.Bool.{cases_lt}
use Rattle.std.proofs.lemmas.List.{length-map, get_or-map, get_or_default}
use Rattle.marked_lines.specs.Moves.{image, source, IsPerm, MovesBelow, permuted_from, permute}
use Rattle.marked_lines.proofs.Permuting.{image_inside, source_below, length-permuted_from, get_or-permute}
use Rattle.sheet_ops.specs.declared.operation.Effect.TheVariants as effect
use Rattle.sheet_ops.specs.LineIds.{opening_id}
use Rattle.sheet_ops.specs.Lines.{AxisLine, lines_moved_from, moved}
use Rattle.sheet_ops.specs.Maps.{past_moves}
use Rattle.sheet_ops.specs.Placed.{placed}
use Rattle.sheet_ops.specs.Effects.{effect_on}
use Rattle.sheet_ops.proofs.Convergence.{rows_carried}
use Rattle.sheet_ops.proofs.PlacedSteps.{placed-step}
use Rattle.sheet_grid.specs.Numbers.{IsNumbered, lines_of, mark_of}
use Rattle.sheet_grid.specs.Kept.{NumberedAxis, KeptSheet, axis, by_numbers, recs_moved, IsKeptAxis, IsSheet}
use Rattle.sheet_ops.proofs.Ids.{number_self}
use Rattle.sheet_grid.proofs.Compared.{other_test}
use Rattle.sheet_grid.proofs.InsertedNumbers.{Apart, numbered_apart, mark_none}
use Rattle.sheet_grid.proofs.Meanings.{length-lines_of}
use Rattle.sheet_grid.proofs.WellFormed.{slot_found, kept_formed, kept_inside}
use Rattle.sheet_grid.proofs.SlotOrders.{order_carried, sheet_carried}

-- ---- numbers
module _ (ns ps : List ℕ) (ok : IsNumbered ns ps) (moves : List (ℕ × ℕ)) (perm : IsPerm moves) (below : MovesBelow (length ns) moves) where
  long : length (permute moves ns) ≡ length ns
  long = length-permuted_from moves ns 0 ns

  number_is : (p : ℕ) → p < length ns → slice_index (permute moves ns) p ≡ slice_index ns (source moves p)
  number_is p h = get_or-permute moves ns p 0 below h

  place_is : (k : ℕ) → k < length ns → slice_index (map (image moves) ps) k ≡ image moves (slice_index ps k)
  place_is k h = get_or-map (image moves) ps k 0 0 (let e = ok.as_many in omega arith)

  pub numbered_moved : IsNumbered (permute moves ns) (map (image moves) ps)
  numbered_moved = record {
    few = let e = long in let f = ok.few in omega arith;
    as_many = length-map ps (image moves) ∙ (ok.as_many ∙ sym long);
    back = λ p h.
        let h' : p < length ns = omega (arith, h, long) in
        let inside = source_below moves (length ns) p below h' in
        let old = ok.back (source moves p) inside in (
          subst (λ n. n < length (permute moves ns)) (sym (number_is p h')) (omega (arith, old.0, long)),
          ap (slice_index (map (image moves) ps)) (number_is p h') ∙ (place_is (slice_index ns (source moves p)) old.0 ∙ (ap (image moves) old.1 ∙ perm.forth p)),
        );
    forth = λ k h.
        let h' : k < length ns = omega (arith, h, long) in
        let old = ok.forth k h' in
        let inside = image_inside moves perm (length ns) (slice_index ps k) below old.0 in (
          subst (λ n. n < length (permute moves ns)) (sym (place_is k h')) (omega (arith, inside, long)),
          ap (slice_index (permute moves ns)) (place_is k h') ∙ (number_is (image moves (slice_index ps k)) inside ∙ (ap (slice_index ns) (perm.back (slice_index ps k)) ∙ old.1)),
        );
  }

-- ---- lines
rec_same : (slots recs : List ℕ) (i r : ℕ) (l : AxisLine) → length recs ≡ length slots → l.rec ≡ opening_id r → (slice_index_or (lines_of slots recs) i l).rec ≡ opening_id (slice_index_or recs i r)
rec_same [] [] i r l e h = h
rec_same [] (x ∷ recs) i r l e h = absurd (omega arith)
rec_same (s ∷ slots) [] i r l e h = absurd (omega arith)
rec_same (s ∷ slots) (x ∷ recs) zero r l e h = refl
rec_same (s ∷ slots) (x ∷ recs) (suc i) r l e h = rec_same slots recs i r l (omega arith) h

lines_moved : (moves : List (ℕ × ℕ)) (slots recs : List ℕ) (q : ℕ) (ss rs : List ℕ) → length recs ≡ length slots → length rs ≡ length ss →
    lines_of ss (permuted_from moves recs q rs) ≡ lines_moved_from moves (lines_of slots recs) q (lines_of ss rs)
lines_moved moves slots recs q [] [] e f = refl
lines_moved moves slots recs q [] (r ∷ rs) e f = absurd (omega arith)
lines_moved moves slots recs q (s ∷ ss) [] e f = absurd (omega arith)
lines_moved moves slots recs q (s ∷ ss) (r ∷ rs) e f = λ i.
    record { slot = opening_id s; rec = sym (rec_same slots recs (source moves q) r (record { slot = opening_id s; rec = opening_id r }) e refl) i }
    ∷ lines_moved moves slots recs (suc q) ss rs e (omega arith) i

-- ---- marks
pub mark_at : (recs : List ℕ) (marks : List Bool) (p : ℕ) → length marks ≡ length recs → p < length recs → Apart recs → mark_of recs marks (slice_index recs p) ≡ slice_index_or marks p false
mark_at [] marks p e h apart = absurd (omega arith)
mark_at (r ∷ recs) [] p e h apart = absurd (omega arith)
mark_at (r ∷ recs) (m ∷ marks) zero e h apart = ap (λ t. cond t m (mark_of recs marks r)) (number_self r)
mark_at (r ∷ recs) (m ∷ marks) (suc p) e h apart =
    ap (λ t. cond t m (mark_of recs marks (slice_index recs p))) (other_test r (slice_index recs p) (λ s. let clash : 0 ≡ suc p = apart 0 (suc p) (omega arith) h s in omega arith))
    ∙ mark_at recs marks p (omega arith) (omega arith) (λ i j a b s. let k : suc i ≡ suc j = apart (suc i) (suc j) (omega arith) (omega arith) s in omega arith)

none_above : (ns ps : List ℕ) → IsNumbered ns ps → (n : ℕ) → length ns ≤ n → All (λ r. r ≢ n) ns
none_above ns ps ok n h k d within e = let b = ok.back k within in let same = get_or_default ns k 0 d within in omega (arith, b.0, e, same, h)

module _ (k : NumberedAxis) (sp rp : List ℕ) (ok : IsKeptAxis k sp rp) (moves : List (ℕ × ℕ)) (perm : IsPerm moves) (below : MovesBelow (length k.slots) moves) where
  below_recs : MovesBelow (length k.recs) moves
  below_recs = subst (λ n. MovesBelow n moves) (sym ok.as_many) below

  below_marks : MovesBelow (length k.marks) moves
  below_marks = subst (λ n. MovesBelow n moves) (sym ok.marked) below_recs

  recs_long : length (permute moves k.recs) ≡ length k.recs
  recs_long = length-permuted_from moves k.recs 0 k.recs

  marks_long : length (permute moves k.marks) ≡ length k.marks
  marks_long = length-permuted_from moves k.marks 0 k.marks

  pub kept_recs_moved : IsKeptAxis (recs_moved k moves) sp (map (image moves) rp)
  kept_recs_moved = record {
    slots = ok.slots;
    recs = numbered_moved k.recs rp ok.recs moves perm below_recs;
    as_many = recs_long ∙ ok.as_many;
    marked = marks_long ∙ (ok.marked ∙ sym recs_long);
  }

  mark_moved : (n : ℕ) → mark_of (permute moves k.recs) (permute moves k.marks) n ≡ mark_of k.recs k.marks n
  mark_moved n = by_side (cases_lt n (length k.recs))
    where
      by_side : ((n < length k.recs) ⊎ (length k.recs ≤ n)) → mark_of (permute moves k.recs) (permute moves k.marks) n ≡ mark_of k.recs k.marks n
      by_side (inr h) =
          mark_none (permute moves k.recs) (permute moves k.marks) n (none_above (permute moves k.recs) (map (image moves) rp) (numbered_moved k.recs rp ok.recs moves perm below_recs) n (let e = recs_long in omega arith))
          ∙ sym (mark_none k.recs k.marks n (none_above k.recs rp ok.recs n h))
      by_side (inl h) =
          let old = ok.recs.forth n h in
          let p = slice_index rp n in
          let inside = image_inside moves perm (length k.recs) p below_recs old.0 in
          let there : slice_index (permute moves k.recs) (image moves p) ≡ n =
          get_or-permute moves k.recs (image moves p) 0 below_recs inside ∙ (ap (slice_index k.recs) (perm.back p) ∙ old.1) in
          ap (mark_of (permute moves k.recs) (permute moves k.marks)) (sym there)
          ∙ (mark_at (permute moves k.recs) (permute moves k.marks) (image moves p) (marks_long ∙ (ok.marked ∙ sym recs_long)) (let e = recs_long in omega arith)
          (numbered_apart (permute moves k.recs) (map (image moves) rp) (numbered_moved k.recs rp ok.recs moves perm below_recs))
          ∙ (get_or-permute moves k.marks (image moves p) false below_marks (let e = ok.marked in omega arith)
          ∙ (ap (λ q. slice_index_or k.marks q false) (perm.back p)
          ∙ (sym (mark_at k.recs k.marks p ok.marked old.0 (numbered_apart k.recs rp ok.recs))
          ∙ ap (mark_of k.recs k.marks) old.1))))

  pub axis_moved : axis (recs_moved k moves) ≡ moved (axis k) moves
  axis_moved = λ i. record {
    lines = lines_moved moves k.slots k.recs 0 k.slots k.recs ok.as_many ok.as_many i;
    dead = λ id. nat_eq id.site 0 && mark_moved id.number i;
  }

pub kept_moved : (k : KeptSheet) → IsSheet k → (moves : List (ℕ × ℕ)) → IsPerm moves → MovesBelow (length k.rows.slots) moves → IsSheet (record k { rows = recs_moved k.rows moves })
kept_moved k (rs, rr, cs, cr, ok) moves perm below = (
  rs,
  map (image moves) rr,
  cs,
  cr,
  record {
    rows = kept_recs_moved k.rows rs rr ok.rows moves perm below;
    cols = ok.cols;
    fits = ok.fits;
    no_row = ok.no_row;
    no_col = ok.no_col;
  },
)

-- the sheet by positions after rows moved is what the move says
pub move_kept : (k : KeptSheet) → IsSheet k → (moves : List (ℕ × ℕ)) → IsPerm moves → MovesBelow (length k.rows.slots) moves →
    placed (by_numbers (record k { rows = recs_moved k.rows moves })) ≡ effect_on (placed (by_numbers k)) (effect.Move moves)
move_kept k (rs, rr, cs, cr, ok) moves perm below =
    let below' : MovesBelow (length (axis k.rows).lines) moves = subst (λ n. MovesBelow n moves) (sym (length-lines_of k.rows.slots k.rows.recs ok.rows.as_many)) below in
    let carried = rows_carried (by_numbers k) [] (kept_formed k rs rr cs cr ok) (effect.Move moves) tt (perm, below') in
    ap placed (sheet_carried k (moved (axis k.rows) moves) (axis k.cols) ok.fits
    (order_carried (axis k.rows) (moved (axis k.rows) moves) (past_moves moves) (length k.rows.slots) carried (slot_found k.rows rs rr ok.rows) (λ a b. refl))
    (λ a b i j. refl)
    (recs_moved k.rows moves) k.cols (axis_moved k.rows rs rr ok.rows moves perm below) refl)
    ∙ placed-step (by_numbers k) (effect.Move moves) [] (kept_formed k rs rr cs cr ok) tt (perm, below') (kept_inside k rs rr cs cr ok)
