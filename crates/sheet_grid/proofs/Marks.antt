-- The marks by positions are those that are kept.
use Rattle.std.proofs.Common.{◌≡◌, ℕ, ◌<◌, Bool, false, length, ap, sym, ◌∙◌, arith}
use Rattle.std.specs.Prelude.{slice_index_or}
use Rattle.std.proofs.lemmas.List.{length-map, get_or_default, same_lists}
use Rattle.sheet_ops.specs.LineIds.{LineId}
use Rattle.sheet_ops.specs.Lines.{AxisLine, marks}
use Rattle.sheet_ops.proofs.Written.{index_map}
use Rattle.sheet_grid.specs.Kept.{NumberedAxis, axis}
use Rattle.sheet_grid.specs.Numbering.{IsAxis}
use Rattle.sheet_grid.proofs.Meanings.{rec_there, length-lines_of}
use Rattle.sheet_grid.proofs.MovedRecords.{mark_at}
use Rattle.sheet_grid.proofs.InsertedNumbers.{numbered_apart}

pub marks_kept : (k : NumberedAxis) → IsAxis k → marks (axis k) ≡ k.marks
marks_kept k (sp, rp, ok) = same_lists (marks (axis k)) k.marks long at
  where
    lines_long : length (axis k).lines ≡ length k.slots
    lines_long = length-lines_of k.slots k.recs ok.as_many

    long : length (marks (axis k)) ≡ length k.marks
    long = length-map (axis k).lines (λ (l : AxisLine). (axis k).dead l.rec) ∙ (lines_long ∙ (sym ok.as_many ∙ sym ok.marked))

    at : (q : ℕ) (d : Bool) → q < length (marks (axis k)) → slice_index_or (marks (axis k)) q d ≡ slice_index_or k.marks q d
    at q d within =
        let m = length-map (axis k).lines (λ (l : AxisLine). (axis k).dead l.rec) in
        let inside : q < length (axis k).lines = omega (arith, m, within) in
        let here : q < length k.slots = let l = lines_long in omega (arith, l, inside) in
        let rec : q < length k.recs = let e = ok.as_many in omega (arith, e, here) in
        index_map (λ (l : AxisLine). (axis k).dead l.rec) d (axis k).lines q inside
        ∙ (ap (λ (a : LineId). (axis k).dead a) (rec_there k.slots k.recs q ok.as_many here)
        ∙ (mark_at k.recs k.marks q ok.marked rec (numbered_apart k.recs rp ok.recs)
        ∙ get_or_default k.marks q false d (let e = ok.marked in omega (arith, e, rec))))
