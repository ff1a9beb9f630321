use Rattle.std.proofs.Common.{◌≤◌, ◌∙◌, length, arith, ap, refl}
use Rattle.marked_lines.specs.declared.lines.TheConstants.{MOST_LINES}
use Rattle.marked_lines.proofs.Permuting.{length-permuted_from}
use Rattle.marked_lines.proofs.lines.Lines.permute.Goals as goal
use Rattle.marked_lines.proofs.lines.Lines.permute.Goals.{In_ok-marks}

short : (c : In_ok-marks) → length c.in_ok-marks.marks.items ≤ MOST_LINES
short c =
    let n = ap length c.in_ok-marks.ensures in
    let same = length-permuted_from c.args.perm.now c.deref-2.result.now 0 c.deref-2.result.now in
    let read = ap length c.deref-2.ensures.value in
    omega (arith, n, same, read, c.self.invariant.short)

pub places_of-requires : goal.places_of-requires
places_of-requires c =
    let h = short (goal.at.places_of-requires c).In_ok-marks in
    let n = ap length c.deref-3.ensures.value in
    omega (arith, h, n)

pub invariant_of-self : goal.invariant_of-self
invariant_of-self c = record {
  short = short (goal.at.invariant_of-self c).In_ok-marks;
  visible = c.in_ok-places.ensures ∙ rw c.deref-3.ensures.value refl;
}
